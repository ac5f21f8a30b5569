use Rattle.std.proofs.Common.{◌≡◌, ◌||◌, ℕ, take}
use Rattle.std.specs.List.{list_any}
use Rattle.ae_base.specs.Mask.{has}
use Rattle.expansion.proofs.used.with_terms.Given as goal

abbrev pub invariant-loop-term : goal.invariant-loop-term
invariant-loop-term l = (j : ℕ) → has l.all j ≡ (has l.fn.held j || list_any (λ t. has t j) (take l.term-index l.terms))
