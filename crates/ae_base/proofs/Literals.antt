-- Products of literals: 1 where the literals of all members are.
use Rattle.std.proofs.Common.{◌≡◌, ℕ, true, false, ◌&&◌, inl, inr, refl, sym, ap, ◌∙◌, eqb-true, eq-eqb}
use Rattle.std.proofs.lemmas.Bool.{cases_Bool, false≢true, and_parts, and_from, or_cases, or_left, or_right}
use Rattle.ae_base.specs.Mask.{Set, has, empty, with, members}
use Rattle.ae_base.specs.Cube.{Signs}
use Rattle.ae_base.specs.Terms.{literal, product}
use Rattle.ae_base.proofs.Elements.{all_at, all_from_members}
use Rattle.ae_base.proofs.Members.{members-has}
use Rattle.ae_base.proofs.Sets.{has-empty, has-with}
use Rattle.ae_base.proofs.Truth.{same_truth}

pub product-literals : (p : Signs) (t x : Set) → product p t x ≡ true → (j : ℕ) → has t j ≡ true → literal p j x ≡ true
unfolding product
product-literals p t x h j m = all_at (λ k. literal p k x) j (members t) (members-has t j ∙ m) h

pub literals-product : (p : Signs) (t x : Set) → ((j : ℕ) → has t j ≡ true → literal p j x ≡ true) → product p t x ≡ true
unfolding product
literals-product p t x h = all_from_members (λ k. literal p k x) (members t) (λ j a. h j (sym (members-has t j) ∙ a))

pub product_false : (p : Signs) (t x : Set) (k : ℕ) → has t k ≡ true → literal p k x ≡ false → product p t x ≡ false
product_false p t x k m h = elim (cases_Bool (product p t x)) [ inl e ↦ absurd (false≢true (sym h ∙ product-literals p t x e k m)) | inr e ↦ e ]

pub product-empty : (p : Signs) (x : Set) → product p empty x ≡ true
product-empty p x = literals-product p empty x (λ j m. absurd (false≢true (sym (has-empty j) ∙ m)))

pub product-with : (p : Signs) (t x : Set) (j : ℕ) → product p (with t j) x ≡ (literal p j x && product p t x)
product-with p t x j =
    same_truth _ _
    (λ h. and_from _ _ (product-literals p (with t j) x h j (has-with t j j ∙ or_left _ _ (eq-eqb j j refl)))
    (literals-product p t x (λ k m. product-literals p (with t j) x h k (has-with t j k ∙ or_right _ _ m))))
    (λ h. let both = and_parts _ _ h in literals-product p (with t j) x (λ k m.
    elim (or_cases _ _ (sym (has-with t j k) ∙ m)) [ inl e ↦ ap (λ i. literal p i x) (eqb-true k j e) ∙ both.0 | inr e ↦ product-literals p t x both.1 k e ]))
