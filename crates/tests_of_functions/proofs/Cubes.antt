-- Products whose literals are cut to the first n inputs, the plain ones before the complemented.
use Rattle.std.proofs.Common.{◌≡◌, ℕ, Bool, true, false, ◌&&◌, refl, sym, ap, ◌∙◌}
use Rattle.std.proofs.lemmas.Bool.{and_parts}
use Rattle.ae_base.specs.Mask.{Set, differ, has, both, xor, first}
use Rattle.ae_base.specs.Cube.{IsOver}
use Rattle.ae_base.proofs.Sets.{has-both, has-xor, has-inside}
use Rattle.test_support.proofs.Below.{point}

without_both : (s t : Set) (j : ℕ) → has (xor s (both s t)) j ≡ differ (has s j) (has s j && has t j)
without_both s t j = has-xor s (both s t) j ∙ ap (λ b. differ (has s j) b) (has-both s t j)

apart : (b c : Bool) → c ≡ true → differ b (b && c) ≡ false
apart true c e = rw e refl
apart false c e = refl

within : (b c : Bool) → differ b (b && c) ≡ true → b ≡ true
within true c e = refl
within false c e = e

over_first : (n : ℕ) (p c f : Set) → f ≡ first n → IsOver n (record { pos = both p f; neg = xor (both c f) (both (both c f) (both p f)) })
over_first n p c f f_is = (
  λ j h. without_both (both c f) (both p f) j ∙ apart _ _ h,
  point n p f (both p f) f_is refl,
  has-inside _ (first n) (λ k m. ap (λ g. has g k) (sym f_is) ∙ (and_parts _ _ (sym (has-both c f k) ∙ within _ _ (sym (without_both (both c f) (both p f) k) ∙ m))).1),
)

pub over : (n : ℕ) (p c f pos neg common rest : Set) → f ≡ first n → pos ≡ both p f → neg ≡ both c f → common ≡ both neg pos → rest ≡ xor neg common → IsOver n (record { pos = pos; neg = rest })
over n p c f pos neg common rest f_is pos_is neg_is common_is rest_is = rw (rest_is, common_is, neg_is, pos_is) (over_first n p c f f_is)
