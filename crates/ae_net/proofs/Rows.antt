-- When a row holds, and rows over few pins.
use Rattle.std.proofs.Common.{◌≡◌, ◌≢◌, ℕ, ◌<◌, true, false, not, ◌&&◌, inl, inr, refl, sym, ap, ◌∙◌, arith, eqb, eqb-true, eq-eqb, ne_eqb}
use Rattle.std.proofs.lemmas.Bool.{cases_Bool, and_parts, and_from, false≢true, lt-ltb, not-true}
use Rattle.ae_base.specs.Mask.{Set, has, empty, first, with, inside}
use Rattle.ae_base.specs.Cube.{holds, whole}
use Rattle.ae_base.proofs.Sets.{has-empty, has-first, has-with, inside-has, has-inside}
use Rattle.ae_base.proofs.Products.{holds-has, has-holds}
pub use Rattle.ae_base.proofs.Truth.{same_truth}
use Rattle.ae_net.specs.Valid.{IsRowOf}

-- ---- sets of one number

single_at : (j : ℕ) → has (with empty j) j ≡ true
single_at j = has-with empty j j ∙ rw (eq-eqb j j refl) refl

single_is : (j k : ℕ) → has (with empty j) k ≡ true → k ≡ j
single_is j k h = elim (cases_Bool (eqb k j)) [ inl e ↦ eqb-true k j e | inr e ↦ absurd (false≢true (sym (has-empty k) ∙ (rw e at (sym (has-with empty j k) ∙ h)))) ]

single_other : (j k : ℕ) → k ≢ j → has (with empty j) k ≡ false
single_other j k other = has-with empty j k ∙ rw (ne_eqb k j other) (has-empty k)

single_inside : (j n : ℕ) → j < n → inside (with empty j) (first n) ≡ true
single_inside j n l = has-inside _ _ (λ k m. has-first n k ∙ lt-ltb k n (omega (arith, l, single_is j k m)))

empty_inside : (s : Set) → inside empty s ≡ true
empty_inside s = has-inside empty s (λ k m. absurd (false≢true (sym (has-empty k) ∙ m)))

-- ---- the rows of the kinds of gates

pub plain_row : (j : ℕ) (x : Set) → holds (record { pos = with empty j; neg = empty }) x ≡ has x j
plain_row j x =
    same_truth _ _
    (λ h. (holds-has _ x h).0 j (single_at j))
    (λ h. has-holds _ x (λ k m. ap (has x) (single_is j k m) ∙ h, λ k m. absurd (false≢true (sym (has-empty k) ∙ m))))

pub complemented_row : (j : ℕ) (x : Set) → holds (record { pos = empty; neg = with empty j }) x ≡ not (has x j)
complemented_row j x =
    same_truth _ _
    (λ h. ap not ((holds-has _ x h).1 j (single_at j)))
    (λ h. has-holds _ x (λ k m. absurd (false≢true (sym (has-empty k) ∙ m)), λ k m. ap (has x) (single_is j k m) ∙ not-true (has x j) h))

pub one_of_each_row : (a b : ℕ) (x : Set) → holds (record { pos = with empty a; neg = with empty b }) x ≡ (has x a && not (has x b))
one_of_each_row a b x =
    same_truth _ _
    (λ h. let parts = holds-has _ x h in and_from _ _ (parts.0 a (single_at a)) (ap not (parts.1 b (single_at b))))
    (λ h. has-holds _ x (λ k m. ap (has x) (single_is a k m) ∙ (and_parts _ _ h).0, λ k m. ap (has x) (single_is b k m) ∙ not-true (has x b) ((and_parts _ _ h).1)))

pub full_row : (n : ℕ) (x : Set) → holds (record { pos = first n; neg = empty }) x ≡ inside (first n) x
full_row n x =
    same_truth _ _
    (λ h. has-inside (first n) x ((holds-has _ x h).0))
    (λ h. has-holds _ x (λ k m. inside-has (first n) x h k m, λ k m. absurd (false≢true (sym (has-empty k) ∙ m))))

-- the row of no literals
pub whole_row : (x : Set) → holds whole x ≡ true
unfolding whole
whole_row x = has-holds _ x (λ k m. absurd (false≢true (sym (has-empty k) ∙ m)), λ k m. absurd (false≢true (sym (has-empty k) ∙ m)))

pub IsRowOf-whole : (n : ℕ) → IsRowOf n whole
unfolding whole
IsRowOf-whole n = record { is_product = λ k m. has-empty k; pos = empty_inside (first n); neg = empty_inside (first n) }

pub IsRowOf-plain : (j n : ℕ) → j < n → IsRowOf n (record { pos = with empty j; neg = empty })
IsRowOf-plain j n l = record { is_product = λ k m. has-empty k; pos = single_inside j n l; neg = empty_inside (first n) }

pub IsRowOf-complemented : (j n : ℕ) → j < n → IsRowOf n (record { pos = empty; neg = with empty j })
IsRowOf-complemented j n l = record { is_product = λ k m. absurd (false≢true (sym (has-empty k) ∙ m)); pos = empty_inside (first n); neg = single_inside j n l }

pub IsRowOf-one_of_each : (a b n : ℕ) → a < n → b < n → a ≢ b → IsRowOf n (record { pos = with empty a; neg = with empty b })
IsRowOf-one_of_each a b n la lb other = record { is_product = λ k m. single_other b k (λ e. other (sym (single_is a k m) ∙ e)); pos = single_inside a n la; neg = single_inside b n lb }

pub IsRowOf-full : (n : ℕ) → IsRowOf n (record { pos = first n; neg = empty })
IsRowOf-full n = record { is_product = λ k m. has-empty k; pos = has-inside _ _ (λ k m. m); neg = empty_inside (first n) }
