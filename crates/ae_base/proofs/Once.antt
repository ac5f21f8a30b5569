-- Lists with each element once: what `without_repeats` leaves.
use Rattle.std.proofs.Common.{◌≡◌, ◌≢◌, ◌≤◌, Bool, true, false, not, ◌||◌, cond, inl, inr, List, [], ◌∷◌, ◌++◌, length, refl, sym, ap, ◌∙◌, eqb, eqb-true, eq-eqb, ne_eqb, append-nil, arith}
use Rattle.std.specs.List.{list_any, AllByRecursion}
use Rattle.std.specs.Prelude.{filter}
use Rattle.std.proofs.lemmas.Bool.{cases_Bool, cases_eq, false≢true, or_left, or_right}
use Rattle.std.proofs.lemmas.List.Elements.{filter-append, filter_passes, recursion_from_All}
use Rattle.ae_base.specs.Lists.{without_repeats}
use Rattle.ae_base.specs.Mask.{Set}
use Rattle.ae_base.proofs.Distinct.{Distinct, Distinct-filter, each-filter, each_weaker}
use Rattle.ae_base.proofs.Elements.{any_kept, filter_all, length_filter_le}

-- one more element at the end, where it is not there yet
abbrev pub added : Set → List Set → List Set
added y xs = cond (list_any (λ x. eqb x y) xs) xs (xs ++ y ∷ [])

abbrev others : Set → List Set → List Set
others x ys = filter (λ y. not (eqb y x)) ys

other_kept : (x y : Set) (ys : List Set) → eqb x y ≡ false → list_any (λ z. eqb z y) (others x ys) ≡ list_any (λ z. eqb z y) ys
other_kept x y [] ne = refl
other_kept x y (z ∷ zs) ne =
    elim (cases_Bool (eqb z x)) [
      | inl e ↦ let same : eqb z y ≡ false = ap (λ s. eqb s y) (eqb-true z x e) ∙ ne in rw (e, same) (other_kept x y zs ne)
      | inr e ↦ rw e (ap (λ b. eqb z y || b) (other_kept x y zs ne))
    ]

others_more : (x y : Set) (ys : List Set) (b : Bool) → list_any (λ z. eqb z y) ys ≡ b → x ∷ others x (cond b ys (ys ++ y ∷ [])) ≡ added y (x ∷ others x ys)
others_more x y ys b there =
    elim (cases_Bool (eqb x y)) [
      | inl e ↦ rw e (ap (λ l. x ∷ l) (same b (eq-eqb y x (sym (eqb-true x y e)))))
      | inr e ↦ rw (e, other_kept x y ys e, there) (other b (ne_eqb y x (λ same. false≢true (sym e ∙ eq-eqb x y (sym same)))))
    ]
  where
    same : (b : Bool) → eqb y x ≡ true → others x (cond b ys (ys ++ y ∷ [])) ≡ others x ys
    same true e = refl
    same false e = filter-append (λ z. not (eqb z x)) ys (y ∷ []) ∙ rw e (append-nil _)

    other : (b : Bool) → eqb y x ≡ false → x ∷ others x (cond b ys (ys ++ y ∷ [])) ≡ cond b (x ∷ others x ys) (x ∷ others x ys ++ y ∷ [])
    other true e = refl
    other false e = ap (λ l. x ∷ l) (filter-append (λ z. not (eqb z x)) ys (y ∷ []) ∙ rw e refl)

pub add_last : (xs : List Set) (y : Set) → without_repeats (xs ++ y ∷ []) ≡ added y (without_repeats xs)
add_last [] y = refl
add_last (x ∷ xs) y = ap (λ ys. x ∷ others x ys) (add_last xs y) ∙ others_more x y (without_repeats xs) (list_any (λ z. eqb z y) (without_repeats xs)) refl

-- ---- no repeats is for good

pub once_apart : (xs : List Set) → Distinct (without_repeats xs)
once_apart [] = tt
once_apart (x ∷ xs) = (
  each_weaker (λ y. not (eqb y x) ≡ true) (λ y. x ≢ y) (λ y h same. false≢true (sym (ap not (eq-eqb y x (sym same))) ∙ h)) (others x (without_repeats xs)) (recursion_from_All _ _ (filter_passes (λ y. not (eqb y x)) (without_repeats xs))),
  Distinct-filter (λ y. not (eqb y x)) (without_repeats xs) (once_apart xs),
)

once_kept : (xs : List Set) → Distinct xs → without_repeats xs ≡ xs
once_kept [] d = refl
once_kept (x ∷ xs) (new, d) = ap (λ ys. x ∷ others x ys) (once_kept xs d) ∙ ap (λ ys. x ∷ ys) (filter_all (λ y. not (eqb y x)) xs (each_weaker (λ y. x ≢ y) (λ y. not (eqb y x) ≡ true) (λ y h. ap not (ne_eqb y x (λ same. h (sym same)))) xs new))

pub once_again : (xs : List Set) → without_repeats (without_repeats xs) ≡ without_repeats xs
once_again xs = once_kept (without_repeats xs) (once_apart xs)

-- ---- what is left

pub unrepeated_has : (x : Set) (xs : List Set) → list_any (λ y. eqb y x) xs ≡ true → list_any (λ y. eqb y x) (without_repeats xs) ≡ true
unrepeated_has x [] h = h
unrepeated_has x (y ∷ ys) h =
    elim (cases_eq y x) [
      | inl e ↦ or_left _ _ (eq-eqb y x e)
      | inr other ↦ or_right _ _ (any_kept (λ z. not (eqb z y)) x (ap not (ne_eqb x y (λ e. other (sym e)))) (without_repeats ys) (unrepeated_has x ys (rw (ne_eqb y x other) at h)))
    ]

pub each_once : (P : Set → Type 0) (xs : List Set) → AllByRecursion P xs → AllByRecursion P (without_repeats xs)
each_once P [] h = tt
each_once P (x ∷ xs) (h, hs) = (h, each-filter P (λ y. not (eqb y x)) (without_repeats xs) (each_once P xs hs))

pub length_once_le : (xs : List Set) → length (without_repeats xs) ≤ length xs
length_once_le [] = omega arith
length_once_le (x ∷ xs) = omega (arith, length_filter_le (λ y. not (eqb y x)) (without_repeats xs), length_once_le xs)
