use Rattle.std.proofs.Common.{◌≡◌, ℕ, drop}
use Rattle.ae_base.specs.Mask.{differ, has}
use Rattle.ae_base.specs.Terms.{exor_of}
use Rattle.input_tests.proofs.vectors.odd_in.Given as goal

abbrev pub invariant-loop-term : goal.invariant-loop-term
invariant-loop-term l = (j : ℕ) → differ (has l.odd j) (exor_of (λ t. has t j) (drop l.term-index l.terms)) ≡ exor_of (λ t. has t j) l.terms
