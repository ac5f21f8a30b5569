-- Names that stand twice.
use Rattle.std.specs.Prelude.{ℕ, Bool, false, ◌||◌, List, [], ◌∷◌, bytes_eq}
use Rattle.std.specs.List.{list_any}

-- the name is one of the list
abbrev pub is_among : List ℕ → List (List ℕ) → Bool
is_among name names = list_any (bytes_eq name) names

-- some name stands twice
abbrev pub has_twins : List (List ℕ) → Bool
has_twins [] = false
has_twins (name ∷ names) = is_among name names || has_twins names

-- some name stands in both lists
abbrev pub share : List (List ℕ) → List (List ℕ) → Bool
share names others = list_any (λ other. is_among other names) others
