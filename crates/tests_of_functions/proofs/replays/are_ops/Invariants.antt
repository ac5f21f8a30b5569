use Rattle.tests_of_functions.proofs.Ops.{AreOpsTo}
use Rattle.tests_of_functions.proofs.replays.are_ops.Given as goal

abbrev pub invariant-loop-k : goal.invariant-loop-k
invariant-loop-k l = AreOpsTo l.n l.list l.k
