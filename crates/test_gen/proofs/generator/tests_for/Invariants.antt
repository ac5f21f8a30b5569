use Rattle.std.proofs.Common.{◌-◌, length, drop}
use Rattle.test_gen.proofs.Detected.{Searching}
use Rattle.test_gen.proofs.generator.tests_for.Given as goal

abbrev pub invariant-loop-next : goal.invariant-loop-next
invariant-loop-next g l = Searching (g.S.FnStore.functions l.fn.store) (g.S.FnStore.functions l.store) l.net l.fn.all.items (drop l.next l.left.items) l.tests.points l.tests.unchanged

abbrev pub decreases-loop-next : goal.decreases-loop-next
decreases-loop-next g l = length l.left.items - l.next
