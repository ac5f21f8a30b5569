-- Lists that are made element by element from another list.
use Rattle.std.proofs.Common.{◌≡◌, ℕ, ◌+◌, ◌<◌, ◌≤◌, List, [], ◌∷◌, ◌++◌, length, map, take, get_or, ap, ap₂, sym, ◌∙◌}
use Rattle.std.specs.List.{AllZip}
use Rattle.std.proofs.lemmas.List.{map_push, take_more, take_all}

-- a list, and what a function gives for each of its elements
pub AllZip-from_map : {A B : Type 0} (R : A → B → Type 0) (f : A → B) → ((x : A) → R x (f x)) → (xs : List A) → AllZip R xs (map f xs)
AllZip-from_map R f h [] = tt
AllZip-from_map R f h (x ∷ xs) = (h x, AllZip-from_map R f h xs)

-- the step of a loop over a list that adds what a function gives for each of its elements
pub one-more : {A B : Type 0} (f : A → B) (xs : List A) (ys zs : List B) (i m : ℕ) (d : A) (y : B) → m ≡ i + 1 → i < length xs → y ≡ f (get_or xs i d) → zs ≡ ys ++ y ∷ [] → ys ≡ map f (take i xs) → zs ≡ map f (take m xs)
one-more f xs ys zs i m d y next within is pushed before =
    pushed ∙ ap₂ (λ vs v. vs ++ v ∷ []) before is ∙ sym (map_push f (take i xs) (get_or xs i d)) ∙ ap (map f) (sym (take_more xs i d within)) ∙ ap (λ k. map f (take k xs)) (sym next)

-- after the loop
pub all_mapped : {A B : Type 0} (f : A → B) (xs : List A) (ys : List B) (i : ℕ) → length xs ≤ i → ys ≡ map f (take i xs) → ys ≡ map f xs
all_mapped f xs ys i end e = e ∙ ap (map f) (take_all i xs end)
