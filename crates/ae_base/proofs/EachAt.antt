-- What holds of each element of a list and its place: the list comes apart as it was built.
use Rattle.std.proofs.Common.{◌≡◌, ℕ, zero, suc, ◌+◌, ◌<◌, ◌≤◌, List, [], ◌∷◌, ◌++◌, length, sym, subst, refl, arith}
use Rattle.std.specs.Prelude.{Some, slice_get}

-- it holds of each element of the list, the first of which is in place i
unfoldable pub EachAt : {A : Type 0} → (ℕ → A → Type 0) → ℕ → List A → Type 0
EachAt P i [] = Unit {0}
EachAt P i (a ∷ xs) = P i a × EachAt P (suc i) xs

pub EachAt-from_get : {A : Type 0} (P : ℕ → A → Type 0) (i : ℕ) (xs : List A) → ((j : ℕ) (a : A) → slice_get xs j ≡ Some a → P (i + j) a) → EachAt P i xs
unfolding EachAt
EachAt-from_get P i [] h = tt
EachAt-from_get P i (a ∷ xs) h = (
  let z : i + 0 ≡ i = omega arith in subst (λ k. P k a) z (h 0 a refl),
  EachAt-from_get P (suc i) xs (λ j b e. let z : i + suc j ≡ suc i + j = omega arith in subst (λ k. P k b) z (h (suc j) b e)),
)

pub EachAt-get : {A : Type 0} (P : ℕ → A → Type 0) (i : ℕ) (xs : List A) → EachAt P i xs → (j : ℕ) (a : A) → slice_get xs j ≡ Some a → P (i + j) a
unfolding EachAt
EachAt-get P i [] h j a e = cc
EachAt-get P i (b ∷ xs) (h, hs) zero a e = let same : b ≡ a = cc in let z : i + 0 ≡ i = omega arith in rw z (subst (P i) same h)
EachAt-get P i (b ∷ xs) (h, hs) (suc j) a e = let z : i + suc j ≡ suc i + j = omega arith in rw z (EachAt-get P (suc i) xs hs j a e)

pub EachAt-split : {A : Type 0} (P : ℕ → A → Type 0) (i : ℕ) (xs ys : List A) → EachAt P i (xs ++ ys) → EachAt P i xs × EachAt P (i + length xs) ys
unfolding EachAt
EachAt-split P i [] ys h = (tt, let z : i + 0 ≡ i = omega arith in subst (λ k. EachAt P k ys) (sym z) h)
EachAt-split P i (a ∷ xs) ys (h, hs) =
    let both = EachAt-split P (suc i) xs ys hs in
    let z : i + suc (length xs) ≡ suc i + length xs = omega arith in
    ((h, both.0), subst (λ k. EachAt P k ys) (sym z) both.1)

pub EachAt-join : {A : Type 0} (P : ℕ → A → Type 0) (i : ℕ) (xs ys : List A) → EachAt P i xs → EachAt P (i + length xs) ys → EachAt P i (xs ++ ys)
unfolding EachAt
EachAt-join P i [] ys h k = let z : i + 0 ≡ i = omega arith in rw z at k
EachAt-join P i (a ∷ xs) ys (h, hs) k = let z : i + suc (length xs) ≡ suc i + length xs = omega arith in (h, EachAt-join P (suc i) xs ys hs (rw z at k))

pub EachAt-weaker : {A : Type 0} (P Q : ℕ → A → Type 0) (i : ℕ) (xs : List A) → ((j : ℕ) (a : A) → i ≤ j → j < i + length xs → P j a → Q j a) → EachAt P i xs → EachAt Q i xs
unfolding EachAt
EachAt-weaker P Q i [] f h = tt
EachAt-weaker P Q i (a ∷ xs) f (h, hs) = (f i a (omega arith) (omega arith) h, EachAt-weaker P Q (suc i) xs (λ j b l k. f j b (omega arith) (omega arith)) hs)
