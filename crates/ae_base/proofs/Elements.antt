-- Elements of lists, by a test that they pass and by their places.
use Rattle.std.proofs.Common.{◌≡◌, ℕ, zero, suc, ◌+◌, ◌<◌, ◌≤◌, Bool, true, false, ◌&&◌, ◌||◌, cond, inl, inr, List, [], ◌∷◌, length, refl, sym, ap, ap₂, ◌∙◌, subst, arith, eqb, eqb-true, eq-eqb}
use Rattle.std.specs.Prelude.{Some, All, Contains, filter, slice_get}
use Rattle.std.specs.List.{list_any, list_all, flat_map, range_with_len, AllByRecursion}
use Rattle.std.proofs.lemmas.Bool.{cases_eq, cases_Bool, false≢true, and_parts, and_from, or_cases, or_left, or_right}
use Rattle.std.proofs.lemmas.List.Folds.{Any-from_list_any, list_any-append, list_any_at}
use Rattle.std.proofs.lemmas.Option.{slice_get_within, slice_get-get_or, get_or_from_slice_get}

-- ---- over any elements

-- an element that passes the test, and where it stands
pub record Passing {X : Type 0} (p : X → Bool) (xs : List X) : Type 0 where
  pub place : ℕ
  pub element : X
  pub there : slice_get xs place ≡ Some element
  pub passes : p element ≡ true

pub any_found : {X : Type 0} (p : X → Bool) (xs : List X) → list_any p xs ≡ true → Passing p xs
any_found p xs h =
    let at = Any-from_list_any p xs h in
    record { place = at.0; element = at.1; there = slice_get-get_or xs at.0 at.1 at.2 ∙ ap Some at.3; passes = at.4 }

pub any_weaker : {X : Type 0} (q r : X → Bool) → ((y : X) → q y ≡ true → r y ≡ true) → (xs : List X) → list_any q xs ≡ true → list_any r xs ≡ true
any_weaker q r h [] a = a
any_weaker q r h (y ∷ ys) a = elim (or_cases _ _ a) [ inl e ↦ or_left _ _ (h y e) | inr e ↦ or_right _ _ (any_weaker q r h ys e) ]

pub any_flat : {X : Type 0} (q : X → Bool) (xss : List (List X)) → list_any q (flat_map (λ xs. xs) xss) ≡ list_any (λ xs. list_any q xs) xss
any_flat q [] = refl
any_flat q (xs ∷ xss) = list_any-append q xs (flat_map (λ ys. ys) xss) ∙ ap (λ b. list_any q xs || b) (any_flat q xss)

pub All-get : {X : Type 0} (P : X → Type 0) (xs : List X) (i : ℕ) (x : X) → All P xs → slice_get xs i ≡ Some x → P x
All-get P xs i x all there = subst P (get_or_from_slice_get xs i x x there) (all i x (slice_get_within xs i x there))

pub length_filter_le : {X : Type 0} (p : X → Bool) (xs : List X) → length (filter p xs) ≤ length xs
length_filter_le p [] = omega arith
length_filter_le p (x ∷ xs) = elim (cases_Bool (p x)) [ inl e ↦ rw e (omega (arith, length_filter_le p xs)) | inr e ↦ rw e (omega (arith, length_filter_le p xs)) ]

-- a filter keeps a list whose elements all pass
pub filter_all : {X : Type 0} (p : X → Bool) (xs : List X) → AllByRecursion (λ x. p x ≡ true) xs → filter p xs ≡ xs
filter_all p [] h = refl
filter_all p (x ∷ xs) (h, hs) = rw h (ap (λ ys. x ∷ ys) (filter_all p xs hs))

-- ---- a number that stands in a list

pub any_of : (h : ℕ → Bool) (x : ℕ) (xs : List ℕ) → list_any (λ y. eqb y x) xs ≡ true → h x ≡ true → list_any h xs ≡ true
any_of h x xs m k = any_weaker (λ y. eqb y x) h (λ y e. ap h (eqb-true y x e) ∙ k) xs m

pub all_at : (h : ℕ → Bool) (x : ℕ) (xs : List ℕ) → list_any (λ y. eqb y x) xs ≡ true → list_all h xs ≡ true → h x ≡ true
all_at h x [] m k = absurd (false≢true m)
all_at h x (y ∷ ys) m k =
    let both = and_parts _ _ k in
    elim (or_cases _ _ m) [ inl e ↦ ap h (sym (eqb-true y x e)) ∙ both.0 | inr e ↦ all_at h x ys e both.1 ]

pub each_at : (P : ℕ → Type 0) (x : ℕ) (xs : List ℕ) → AllByRecursion P xs → list_any (λ y. eqb y x) xs ≡ true → P x
each_at P x [] h there = absurd (false≢true there)
each_at P x (y ∷ ys) (h, hs) there = elim (or_cases _ _ there) [ inl e ↦ subst P (eqb-true y x e) h | inr later ↦ each_at P x ys hs later ]

pub all_from_members : (h : ℕ → Bool) (xs : List ℕ) → ((x : ℕ) → list_any (λ y. eqb y x) xs ≡ true → h x ≡ true) → list_all h xs ≡ true
all_from_members h [] k = refl
all_from_members h (x ∷ xs) k = and_from _ _ (k x (or_left _ _ (eq-eqb x x refl))) (all_from_members h xs (λ y m. k y (or_right _ _ m)))

pub each_member : (P : ℕ → Type 0) (xs : List ℕ) → ((x : ℕ) → list_any (λ y. eqb y x) xs ≡ true → P x) → AllByRecursion P xs
each_member P [] h = tt
each_member P (x ∷ xs) h = (h x (or_left _ _ (eq-eqb x x refl)), each_member P xs (λ y a. h y (or_right _ _ a)))

pub list_all_agree : (f g : ℕ → Bool) (xs : List ℕ) → ((j : ℕ) → list_any (λ m. eqb m j) xs ≡ true → f j ≡ g j) → list_all f xs ≡ list_all g xs
list_all_agree f g [] h = refl
list_all_agree f g (y ∷ ys) h = ap₂ (λ a b. a && b) (h y (or_left _ _ (eq-eqb y y refl))) (list_all_agree f g ys (λ j m. h j (or_right _ _ m)))

pub any-from_Contains : (xs : List ℕ) (x : ℕ) → Contains xs x → list_any (λ y. eqb y x) xs ≡ true
any-from_Contains xs x (k, l, e) = list_any_at (λ y. eqb y x) xs k x l (eq-eqb _ x e)

pub Contains-from_any : (xs : List ℕ) (x : ℕ) → list_any (λ y. eqb y x) xs ≡ true → Contains xs x
Contains-from_any xs x h =
    let at = Any-from_list_any (λ y. eqb y x) xs h in
    let same : at.1 ≡ x = eqb-true at.1 x at.4 in
    subst (Contains xs) same (at.0, at.2, at.3)

-- ---- numbers that are kept

-- a kept element stands among the kept ones
pub any_kept : (p : ℕ → Bool) (j : ℕ) → p j ≡ true → (xs : List ℕ) → list_any (λ y. eqb y j) xs ≡ true → list_any (λ y. eqb y j) (filter p xs) ≡ true
any_kept p j h [] a = a
any_kept p j h (y ∷ ys) a =
    elim (or_cases _ _ a) [
      | inl e ↦ rw (eqb-true y j e, h, eq-eqb j j refl) refl
      | inr e ↦ elim (cases_Bool (p y)) [ inl k ↦ rw k (or_right _ _ (any_kept p j h ys e)) | inr k ↦ rw k (any_kept p j h ys e) ]
    ]

-- an element that is kept passes the test, and stood there
pub any_filter_parts : (p : ℕ → Bool) (x : ℕ) (xs : List ℕ) → list_any (λ y. eqb y x) (filter p xs) ≡ true → (p x ≡ true) × (list_any (λ y. eqb y x) xs ≡ true)
any_filter_parts p x [] h = absurd (false≢true h)
any_filter_parts p x (y ∷ ys) h = by_kept (λ k. any_filter_parts p x ys k) (p y) refl h
  where
    more : (p x ≡ true) × (list_any (λ z. eqb z x) ys ≡ true) → (p x ≡ true) × ((eqb y x || list_any (λ z. eqb z x) ys) ≡ true)
    more r = (r.0, or_right _ _ r.1)

    by_kept : (list_any (λ z. eqb z x) (filter p ys) ≡ true → (p x ≡ true) × (list_any (λ z. eqb z x) ys ≡ true)) → (b : Bool) → p y ≡ b → list_any (λ z. eqb z x) (cond b (y ∷ filter p ys) (filter p ys)) ≡ true
        → (p x ≡ true) × ((eqb y x || list_any (λ z. eqb z x) ys) ≡ true)
    by_kept later true e k = elim (or_cases _ _ k) [ inl same ↦ (ap p (sym (eqb-true y x same)) ∙ e, or_left _ _ same) | inr l ↦ more (later l) ]
    by_kept later false e k = more (later k)

-- ---- ranges

pub any_range : (a n j : ℕ) → a ≤ j → j < a + n → list_any (λ y. eqb y j) (range_with_len a n) ≡ true
any_range a zero j l h = absurd (omega (arith, l, h))
any_range a (suc n) j l h = elim (cases_eq a j) [ inl e ↦ or_left _ _ (eq-eqb a j e) | inr ne ↦ or_right _ _ (any_range (a + 1) n j (omega arith) (omega arith)) ]

-- two tests that agree on the numbers of a range keep the same of them
pub filter_range_agree : (p q : ℕ → Bool) (a n : ℕ) → ((j : ℕ) → j < a + n → p j ≡ q j) → filter p (range_with_len a n) ≡ filter q (range_with_len a n)
filter_range_agree p q a zero h = refl
filter_range_agree p q a (suc n) h = rw (h a (omega arith), filter_range_agree p q (a + 1) n (λ j l. h j (omega arith))) refl

pub range_below : (p : ℕ → Bool) (a n b : ℕ) → a + n ≤ b → AllByRecursion (λ j. j < b) (filter p (range_with_len a n))
range_below p a zero b l = tt
range_below p a (suc n) b l = elim (cases_Bool (p a)) [ inl e ↦ rw e (omega arith, range_below p (a + 1) n b (omega arith)) | inr e ↦ rw e (range_below p (a + 1) n b (omega arith)) ]
