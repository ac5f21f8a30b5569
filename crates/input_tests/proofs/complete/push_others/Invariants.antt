use Rattle.std.proofs.Common.{◌≡◌, ◌++◌, take}
use Rattle.input_tests.specs.Whole.{new_ones}
use Rattle.input_tests.proofs.complete.push_others.Given as goal

abbrev pub invariant-loop-point : goal.invariant-loop-point
invariant-loop-point l = l.list.items ≡ l.fn.list.items ++ new_ones l.fn.list.items (take l.point-index l.points)
