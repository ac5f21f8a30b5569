use Rattle.std.proofs.Common.{◌≡◌, ℕ, ◌||◌, ◌%◌, drop}
use Rattle.std.specs.Prelude.{◌==◌, count_by}
use Rattle.std.specs.List.{list_any}
use Rattle.ae_base.specs.Mask.{has}
use Rattle.expansion.specs.Counts.{is_odd}
use Rattle.input_tests.proofs.vectors.odd_inputs.Given as goal

abbrev pub invariant-loop-terms : goal.invariant-loop-terms
invariant-loop-terms l = (j : ℕ) → (has l.odd j || list_any (λ ts. count_by (λ t. has t j) ts % 2 == 1) (drop l.terms-index l.e.outs)) ≡ is_odd l.e j
