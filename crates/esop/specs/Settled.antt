-- Settled lists of cubes: no rewriting step applies to them.
use Rattle.std.specs.Prelude.{ℕ, ◌<◌, ◌≤◌, List, length, slice_index_or, remove, All, AllPairs}
use Rattle.ae_base.specs.Cube.{Product, whole, distance}
use Rattle.esop.specs.Esop.{Cubes}
use Rattle.esop.specs.Links.{links}

-- the cube at a place
abbrev pub cube_at : List Product → ℕ → Product
cube_at cs i = slice_index_or cs i whole

-- the cubes at the other places than i and j, i below j
abbrev pub others : List Product → ℕ → ℕ → List Product
others cs i j = remove (remove cs j) i

-- no cube of the list is at a distance below 2
abbrev pub IsFar : List Product → Product → Type 0
IsFar ds c = All (λ d. 2 ≤ distance c d) ds

-- No two cubes have a distance below 2, and no link of two cubes gives a cube at a distance below 2 from a third.
pub record IsSettled (cs : List Product) : Type 0 where
  pub far : AllPairs (λ c d. 2 ≤ distance c d) cs
  pub unlinked : (i j : ℕ) → i < j → j < length cs → All (λ l. IsFar (others cs i j) l.first × IsFar (others cs i j) l.second) (links (cube_at cs i) (cube_at cs j))

-- each output's list is settled
abbrev pub AreSettled : Cubes → Type 0
AreSettled e = All IsSettled e.outs
