-- Lists of sets.
use Rattle.std.specs.Prelude.{◌==◌, not, List, [], ◌∷◌, filter}
use Rattle.ae_base.specs.Mask.{Set}

-- the list without each element that is equal to an earlier one
abbrev pub without_repeats : List Set → List Set
without_repeats [] = []
without_repeats (x ∷ xs) = x ∷ filter (λ y. not (y == x)) (without_repeats xs)
