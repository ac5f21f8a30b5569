use Rattle.std.specs.List.Sorted.{IsSortedWithin}
use Rattle.std.specs.Ordering.{is_lt}
use Rattle.ae_base.specs.Text.{cmp_text}
use Rattle.tests_of_functions.proofs.esops.is_ordered.Given as goal

abbrev pub invariant-loop-k : goal.invariant-loop-k
invariant-loop-k l = IsSortedWithin (λ d c. is_lt (cmp_text d c)) l.cubes 0 l.k
