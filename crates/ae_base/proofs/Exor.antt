-- The EXOR of a test over a list of terms.
use Rattle.std.proofs.Common.{◌≡◌, ℕ, ◌+◌, ◌%◌, Bool, true, false, not, ◌||◌, cond, inl, inr, List, [], ◌∷◌, ◌++◌, map, refl, sym, ap, ap₂, ◌∙◌, subst, arith, eqb, eqb-true, eq-eqb, ne_eqb}
use Rattle.std.specs.Prelude.{count_by}
use Rattle.std.specs.List.{list_any, list_all, AllByRecursion}
use Rattle.std.specs.List.Sorted.{IsPermutation}
use Rattle.std.proofs.lemmas.Bool.{cases_eq, or_left, or_right}
use Rattle.std.proofs.lemmas.List.Sorted.{sum_by-IsPermutation}
use Rattle.std.proofs.lemmas.List.Sums.{sum_by-cons}
use Rattle.ae_base.specs.Mask.{Set, differ, has}
use Rattle.ae_base.specs.Terms.{exor_of, IsInOrder}
use Rattle.ae_base.proofs.Elements.{all_at, all_from_members}
use Rattle.ae_base.proofs.InOrder.{in_order-tail, not_listed}
use Rattle.ae_base.proofs.Truth.{differ-assoc}

pub exor_of-append : (h : Set → Bool) (ts us : List Set) → exor_of h (ts ++ us) ≡ differ (exor_of h ts) (exor_of h us)
exor_of-append h [] us = refl
exor_of-append h (t ∷ ts) us = ap (differ (h t)) (exor_of-append h ts us) ∙ sym (differ-assoc (h t) (exor_of h ts) (exor_of h us))

pub exor_of-map : (h : Set → Bool) (g : Set → Set) (ts : List Set) → exor_of h (map g ts) ≡ exor_of (λ t. h (g t)) ts
exor_of-map h g [] = refl
exor_of-map h g (t ∷ ts) = ap (differ (h (g t))) (exor_of-map h g ts)

pub exor_of_agree : (h g : Set → Bool) (ts : List Set) → AllByRecursion (λ t. h t ≡ g t) ts → exor_of h ts ≡ exor_of g ts
exor_of_agree h g [] e = refl
exor_of_agree h g (t ∷ ts) (e, es) = ap₂ differ e (exor_of_agree h g ts es)

pub exor_of_some : (h : Set → Bool) (ts : List Set) → exor_of h ts ≡ true → list_any h ts ≡ true
exor_of_some h [] e = e
exor_of_some h (t ∷ ts) e = by_head (h t) refl (exor_of_some h ts)
  where
    by_head : (b : Bool) → h t ≡ b → (exor_of h ts ≡ true → list_any h ts ≡ true) → (h t || list_any h ts) ≡ true
    by_head true k later = or_left _ _ k
    by_head false k later = or_right _ _ (later (sym (ap (λ b. differ b (exor_of h ts)) k) ∙ e))

-- ---- by a count

-- one more turns odd to even
pub odd-suc : (n : ℕ) → eqb ((1 + n) % 2) 1 ≡ not (eqb (n % 2) 1)
odd-suc n =
    elim (cases_eq (n % 2) 1) [
      | inl odd ↦ ne_eqb ((1 + n) % 2) 1 (λ again. absurd (omega (arith, odd, again))) ∙ ap not (sym (eq-eqb (n % 2) 1 odd))
      | inr even ↦ eq-eqb ((1 + n) % 2) 1 (omega (arith, even)) ∙ ap not (sym (ne_eqb (n % 2) 1 even))
    ]

pub odd_count : (f : Set → Bool) (ts : List Set) → exor_of f ts ≡ eqb (count_by f ts % 2) 1
odd_count f [] = refl
odd_count f (t ∷ ts) = by (f t) (odd_count f ts) ∙ ap (λ n. eqb (n % 2) 1) (sym (sum_by-cons (λ u. cond (f u) 1 0) t ts))
  where
    by : (b : Bool) → exor_of f ts ≡ eqb (count_by f ts % 2) 1 → differ b (exor_of f ts) ≡ eqb ((cond b 1 0 + count_by f ts) % 2) 1
    by true h = ap not h ∙ sym (odd-suc (count_by f ts))
    by false h = let z : 0 + count_by f ts ≡ count_by f ts = omega arith in rw z h

pub exor_of-permutation : (h : Set → Bool) (ts us : List Set) → IsPermutation ts us → exor_of h us ≡ exor_of h ts
exor_of-permutation h ts us p = odd_count h us ∙ ap (λ n. eqb (n % 2) 1) (sum_by-IsPermutation (λ t. cond (h t) 1 0) ts us p) ∙ sym (odd_count h ts)

-- the terms are those without the input and those with it
pub all_or_others : (j : ℕ) (ts : List Set) → exor_of (λ t. true) ts ≡ differ (exor_of (λ t. not (has t j)) ts) (exor_of (λ t. has t j) ts)
all_or_others j [] = refl
all_or_others j (t ∷ ts) = ap not (all_or_others j ts) ∙ by (has t j) (exor_of (λ t. not (has t j)) ts) (exor_of (λ t. has t j) ts)
  where
    by : (b x y : Bool) → not (differ x y) ≡ differ (differ (not b) x) (differ b y)
    by true true true = refl
    by true true false = refl
    by true false y = refl
    by false true true = refl
    by false true false = refl
    by false false true = refl
    by false false false = refl

-- ---- over terms in order

apart_or : (a b : Bool) → (a ≡ true → b ≡ false) → (a || b) ≡ differ a b
apart_or true b h = rw (h refl) refl
apart_or false b h = refl

-- in a list without repeats a term stands once or not at all
pub exor_of-member : (t : Set) (ts : List Set) → IsInOrder ts → exor_of (λ u. eqb u t) ts ≡ list_any (λ u. eqb u t) ts
exor_of-member t [] order = refl
exor_of-member t (u ∷ us) order =
    ap (differ (eqb u t)) (exor_of-member t us (in_order-tail u us order))
    ∙ sym (apart_or (eqb u t) (list_any (λ y. eqb y t) us) (λ e. subst (λ v. list_any (λ y. eqb y v) us ≡ false) (eqb-true u t e) (not_listed u us order)))

-- every test that holds of all terms of a list holds of all that stand an odd number of times
pub keeps : (ts us : List Set) → IsInOrder us → ((h : Set → Bool) → exor_of h us ≡ exor_of h ts) → (h : Set → Bool) → list_all h ts ≡ true → list_all h us ≡ true
keeps ts us order same h all =
    all_from_members h us (λ t m. all_at h t ts (exor_of_some (λ u. eqb u t) ts (sym (same (λ u. eqb u t)) ∙ exor_of-member t us order ∙ m)) all)
