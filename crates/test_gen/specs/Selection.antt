-- The elements of a list of which something holds.
use Rattle.std.specs.Prelude.{List, [], ◌∷◌}

-- exactly the elements of which P holds, in the order of the list
pub data IsSelection {X : Type 0} (P : X → Type 0) : List X → List X → Type 0 where
  none : IsSelection P [] []
  taken : {x : X} {xs ys : List X} → P x → IsSelection P xs ys → IsSelection P (x ∷ xs) (x ∷ ys)
  left : {x : X} {xs ys : List X} → ¬ P x → IsSelection P xs ys → IsSelection P (x ∷ xs) ys
