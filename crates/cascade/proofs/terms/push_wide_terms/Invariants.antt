use Rattle.std.proofs.Common.{◌≡◌, ◌++◌, take}
use Rattle.std.specs.Prelude.{filter}
use Rattle.cascade.specs.Reddy.{is_wide}
use Rattle.cascade.proofs.terms.push_wide_terms.Given as goal

abbrev pub invariant-loop-t : goal.invariant-loop-t
invariant-loop-t l = l.list.items ≡ l.initial.list.items ++ filter is_wide (take l.t-index l.terms)
