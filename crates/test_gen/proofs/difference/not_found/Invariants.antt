use Rattle.std.proofs.Common.{◌≡◌, Bool, take}
use Rattle.std.specs.Prelude.{filter}
use Rattle.ae_net.specs.declared.net.Fault.{Fault}
use Rattle.test_gen.proofs.Picked.{Keeping}
use Rattle.test_gen.proofs.difference.not_found.Given as goal

abbrev pub invariant-loop-k : goal.invariant-loop-k
invariant-loop-k l = (keep : Fault → Bool) → Keeping keep l.list l.found → l.left.items ≡ filter keep (take l.k l.list)
