-- What lists of cubes keep to, and what calls on them keep. For private contracts alone.
use Rattle.std.specs.Prelude.{◌≡◌, ◌≤◌, List, All}
use Rattle.std.specs.List.Sorted.{IsSorted}
use Rattle.ae_base.specs.declared.limits.TheConstants.{NET_LINES}
use Rattle.ae_base.specs.Cube.{Product, IsOver}
use Rattle.ae_base.specs.Mask.{Set}
use Rattle.ae_base.specs.Text.{cmp_text}
use Rattle.esop.specs.Esop.{Cubes, esop_value}

-- The cubes have literals of the inputs below n alone, and each list is in the order of the cubes' texts; equal cubes may follow each
-- other.
pub record IsCubes (e : Cubes) : Type 0 where
  pub inputs : e.n ≤ NET_LINES
  pub below : All (All (IsOver e.n)) e.outs
  pub order : All (IsSorted cmp_text) e.outs

-- the second list means the function of the first
abbrev pub HasSameValue : List Product → List Product → Type 0
HasSameValue cs ds = (x : Set) → esop_value ds x ≡ esop_value cs x
