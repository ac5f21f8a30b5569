-- Vectors added to a list. For private contracts alone.
use Rattle.std.specs.Prelude.{◌==◌, if◌then◌else◌, List, [], ◌∷◌, ◌++◌}
use Rattle.std.specs.List.{list_any}
use Rattle.ae_base.specs.Mask.{Set}

-- the list with each of the first at its end in turn, where it is not in it yet
abbrev pub all_added : List Set → List Set → List Set
all_added [] xs = xs
all_added (y ∷ ys) xs = all_added ys (if list_any (λ x. x == y) xs then xs else xs ++ y ∷ [])
