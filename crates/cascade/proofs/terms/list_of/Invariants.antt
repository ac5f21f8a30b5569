use Rattle.std.proofs.Common.{◌≡◌}
use Rattle.cascade.proofs.terms.list_of.Given as goal

abbrev pub invariant-loop-j : goal.invariant-loop-j
invariant-loop-j l = l.list.items ≡ l.yielded
