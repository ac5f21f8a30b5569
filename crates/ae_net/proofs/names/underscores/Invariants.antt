use Rattle.std.proofs.Common.{◌≡◌, ◌+◌, drop}
use Rattle.ae_net.specs.Names as spec
use Rattle.ae_net.proofs.names.underscores.Given as goal

abbrev pub invariant-loop-i : goal.invariant-loop-i
invariant-loop-i l = spec.underscores l.bytes ≡ l.i + spec.underscores (drop l.i l.bytes)
