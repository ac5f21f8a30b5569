-- All points of the inputs, in order.
use Rattle.std.specs.Prelude.{ℕ, zero, suc, Bool, Option, List, [], ◌∷◌, ◌++◌, filter, slice_get}
use Rattle.std.specs.List.{flat_map, range_with_len}
use Rattle.ae_base.specs.Mask.{Set, empty}
use Rattle.ae_base.specs.Cube.{Signs}
use Rattle.fn_store.specs.Davio.{low, high}

-- The points that differ from x at most in the m inputs from j on: those with the literal of input j at 0 stand before those with it
-- at 1, and so on with the inputs after it.
unfoldable pub points_from : Signs → ℕ → ℕ → Set → List Set
points_from p zero j x = x ∷ []
points_from p (suc m) j x = points_from p m (suc j) (low p j x) ++ points_from p m (suc j) (high p j x)

-- All points, compared by their literals: input 0 first, literal 0 before literal 1.
unfoldable pub points_in_order : Signs → List Set
points_in_order p = points_from p p.n 0 empty

-- Of the first of m functions that is 1 at some point, the least such point. None where each is 0 at every point.
unfoldable pub first_one : Signs → ℕ → (ℕ → Set → Bool) → Option Set
first_one p m fs = slice_get (flat_map (λ o. filter (fs o) (points_in_order p)) (range_with_len 0 m)) 0
