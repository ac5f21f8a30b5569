-- The universal vectors of the Reddy form (after S. M. Reddy, "Easily Testable Realizations for Logic Functions", 1972).
use Rattle.std.specs.Prelude.{ℕ, true, List, ◌++◌, map}
use Rattle.ae_base.specs.Mask.{Set, members}
use Rattle.ae_base.specs.Cube.{Signs}
use Rattle.ae_base.specs.Lists.{without_repeats}
use Rattle.ae_base.specs.Points.{flipped}
use Rattle.cascade.specs.FirstVectors.{literals_at, first_vectors}

-- control 0, the literal of input j at 0 and those of the other used inputs at 1: all literals at 1, but input j the other way
unfoldable pub one_low : Signs → Set → ℕ → Set
one_low p used j = flipped j (literals_at p used true)

-- The first four vectors, and then for each used input in order the one with its literal at 0. A vector that is equal to an earlier one
-- is left out.
unfoldable pub universal_vectors : Signs → Set → List Set
universal_vectors p used = without_repeats (first_vectors p used ++ map (one_low p used) (members used))
