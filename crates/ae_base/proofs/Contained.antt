-- What lists contain that are made by `map`, `filter`, `flat_map` and ranges.
use Rattle.std.proofs.Common.{◌≡◌, ℕ, zero, suc, ◌<◌, Bool, true, false, cond, inl, inr, List, [], ◌∷◌, map, refl, sym, ap, ◌∙◌, subst, arith}
use Rattle.std.specs.Prelude.{filter, Contains, ◌⊎◌}
use Rattle.std.specs.List.{flat_map, range_with_len}
use Rattle.std.proofs.lemmas.Bool.{cases_Bool}
use Rattle.std.proofs.lemmas.List.Elements.{Contains-append_left, Contains-append_right, Contains-append_cases}
use Rattle.std.proofs.lemmas.List.FromFn.{length-range_with_len, get_or-range_with_len}

pub nothing_in_none : {X : Type 0} (x : X) → Contains [] x → ⊥
nothing_in_none x (k, l, e) = omega (arith, l)

pub Contains-first : {X : Type 0} (x : X) (xs : List X) → Contains (x ∷ xs) x
Contains-first x xs = (0, omega arith, refl)

pub Contains-later : {X : Type 0} (y : X) (xs : List X) (x : X) → Contains xs x → Contains (y ∷ xs) x
Contains-later y xs x (k, l, e) = (suc k, omega (arith, l), e)

pub Contains-cases : {X : Type 0} (y : X) (xs : List X) (x : X) → Contains (y ∷ xs) x → (y ≡ x) ⊎ Contains xs x
Contains-cases y xs x (zero, l, e) = inl e
Contains-cases y xs x (suc k, l, e) = inr (k, omega (arith, l), e)

pub Contains-map : {X Y : Type 0} (f : X → Y) (xs : List X) (x : X) → Contains xs x → Contains (map f xs) (f x)
Contains-map f [] x h = absurd (nothing_in_none x h)
Contains-map f (y ∷ ys) x h =
    elim (Contains-cases y ys x h) [
      | inl e ↦ subst (λ z. Contains (map f (y ∷ ys)) (f z)) e (Contains-first (f y) (map f ys))
      | inr i ↦ Contains-later (f y) (map f ys) (f x) (Contains-map f ys x i)
    ]

pub Contains-from_map : {X Y : Type 0} (f : X → Y) (xs : List X) (y : Y) → Contains (map f xs) y → (x : X) × Contains xs x × (f x ≡ y)
Contains-from_map f [] y h = absurd (nothing_in_none y h)
Contains-from_map f (x ∷ xs) y h =
    elim (Contains-cases (f x) (map f xs) y h) [
      | inl e ↦ (x, Contains-first x xs, e)
      | inr i ↦ let r = Contains-from_map f xs y i in (r.0, Contains-later x xs r.0 r.1, r.2)
    ]

pub Contains-filter : {X : Type 0} (p : X → Bool) (xs : List X) (x : X) → Contains xs x → p x ≡ true → Contains (filter p xs) x
Contains-filter p [] x h t = absurd (nothing_in_none x h)
Contains-filter p (y ∷ ys) x h t =
    elim (Contains-cases y ys x h) [
      | inl e ↦ let passes : p y ≡ true = ap p e ∙ t in rw passes (subst (λ z. Contains (y ∷ filter p ys) z) e (Contains-first y (filter p ys)))
      | inr i ↦ kept (p y) (Contains-filter p ys x i t)
    ]
  where
    kept : (b : Bool) → Contains (filter p ys) x → Contains (cond b (y ∷ filter p ys) (filter p ys)) x
    kept true i = Contains-later y (filter p ys) x i
    kept false i = i

pub Contains-from_filter : {X : Type 0} (p : X → Bool) (xs : List X) (x : X) → Contains (filter p xs) x → Contains xs x × (p x ≡ true)
Contains-from_filter p [] x h = absurd (nothing_in_none x h)
Contains-from_filter p (y ∷ ys) x h =
    elim (cases_Bool (p y)) [
      | inl passes ↦
          elim (Contains-cases y (filter p ys) x (rw passes at h)) [
            | inl e ↦ (subst (λ z. Contains (y ∷ ys) z) e (Contains-first y ys), sym (ap p e) ∙ passes)
            | inr i ↦ let r = Contains-from_filter p ys x i in (Contains-later y ys x r.0, r.1)
          ]
      | inr drops ↦ let r = Contains-from_filter p ys x (rw drops at h) in (Contains-later y ys x r.0, r.1)
    ]

pub Contains-flat_map : {X Y : Type 0} (f : X → List Y) (xs : List X) (x : X) (y : Y) → Contains xs x → Contains (f x) y → Contains (flat_map f xs) y
Contains-flat_map f [] x y h i = absurd (nothing_in_none x h)
Contains-flat_map f (z ∷ zs) x y h i =
    elim (Contains-cases z zs x h) [
      | inl e ↦ Contains-append_left (f z) (flat_map f zs) y (subst (λ w. Contains (f w) y) (sym e) i)
      | inr j ↦ Contains-append_right (f z) (flat_map f zs) y (Contains-flat_map f zs x y j i)
    ]

pub Contains-from_flat_map : {X Y : Type 0} (f : X → List Y) (xs : List X) (y : Y) → Contains (flat_map f xs) y → (x : X) × Contains xs x × Contains (f x) y
Contains-from_flat_map f [] y h = absurd (nothing_in_none y h)
Contains-from_flat_map f (x ∷ xs) y h =
    elim (Contains-append_cases (f x) (flat_map f xs) y h) [
      | inl i ↦ (x, Contains-first x xs, i)
      | inr i ↦ let r = Contains-from_flat_map f xs y i in (r.0, Contains-later x xs r.0 r.1, r.2)
    ]

pub Contains-range : (n s : ℕ) → s < n → Contains (range_with_len 0 n) s
Contains-range n s l = (s, omega (arith, length-range_with_len 0 n), get_or-range_with_len 0 n s s l ∙ omega arith)

pub Contains-from_range : (n s : ℕ) → Contains (range_with_len 0 n) s → s < n
Contains-from_range n s (k, l, e) =
    let below : k < n = omega (arith, l, length-range_with_len 0 n) in
    omega (arith, below, e, get_or-range_with_len 0 n k s below)
