use Rattle.std.proofs.Common.{◌≡◌, drop}
use Rattle.ae_base.specs.Twins.{has_twins}
use Rattle.ae_base.proofs.twins.has_twins.Given as goal

abbrev pub invariant-loop-i : goal.invariant-loop-i
invariant-loop-i l = has_twins (drop l.i l.names) ≡ has_twins l.names
