use Rattle.std.proofs.Common.{◌≡◌}
use Rattle.pla_read.specs.Pla as spec
use Rattle.pla_read.proofs.names.default_names.Given as goal

abbrev pub invariant-loop-k : goal.invariant-loop-k
invariant-loop-k l = l.names ≡ spec.default_names l.letter l.k
