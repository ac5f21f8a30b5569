-- The first four vectors of the Reddy form.
use Rattle.std.specs.Prelude.{Bool, true, false, not, ◌&&◌, if◌then◌else◌, List, [], ◌∷◌}
use Rattle.ae_base.specs.Lists.{without_repeats}
use Rattle.ae_base.specs.Mask.{Set, has, with, where_below}
use Rattle.ae_base.specs.Cube.{Signs}

-- the vector with the literals of these inputs at v: such an input is v where it is plain, else the complement; the others are 0
unfoldable pub literals_at : Signs → Set → Bool → Set
literals_at p used v = where_below p.n (λ j. has used j && (if has p.plain j then v else not v))

-- control 0 and all literals 0, control 0 and all literals 1, control 1 and all literals 0, control 1 and all literals 1. The control
-- has the number after the inputs, and the literals are those of the used inputs.
unfoldable pub first_vectors : Signs → Set → List Set
first_vectors p used =
    let low = literals_at p used false in
    let high = literals_at p used true in
    without_repeats (low ∷ high ∷ with low p.n ∷ with high p.n ∷ [])
