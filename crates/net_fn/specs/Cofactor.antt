-- The cubes of an output of a cover, and cubes with an input at a value. For private contracts alone.
use Rattle.std.specs.Prelude.{◌≡◌, ℕ, ◌<◌, ◌==◌, ◌&&◌, Bool, false, not, if◌then◌else◌, List, map, filter, All}
use Rattle.std.specs.List.{list_any}
use Rattle.ae_base.specs.Mask.{empty, has, without}
use Rattle.ae_base.specs.Cube.{Product, IsOver, is_free}
use Rattle.ae_cover.specs.declared.parts.Row.{Row}
use Rattle.ae_cover.specs.Cover.{has_mark, is_one}

-- the cubes of the rows with `One` for output o
abbrev pub cubes_of : ℕ → List Row → List Product
cubes_of o rows = map (λ row. row.cube) (filter (has_mark is_one o) rows)

-- the product does not exclude the value of input j
abbrev pub allows : ℕ → Bool → Product → Bool
allows j v c = not (if v then has c.neg j else has c.pos j)

-- the product has no literals
abbrev pub is_whole : Product → Bool
is_whole c = (c.pos == empty) && (c.neg == empty)

-- without the literal of input j
abbrev pub rest : ℕ → Product → Product
rest j c = record { pos = without c.pos j; neg = without c.neg j }

-- the products that allow the value of input j, without its literal
abbrev pub cofactor : ℕ → Bool → List Product → List Product
cofactor j v cubes = map (rest j) (filter (allows j v) cubes)

-- some product has a literal of the input
abbrev pub is_read : List Product → ℕ → Bool
is_read cubes j = list_any (λ c. not (is_free c j)) cubes

-- the literals are of inputs below n, none of them below j
pub record AreFrom (n from : ℕ) (cubes : List Product) : Type 0 where
  pub over : All (IsOver n) cubes
  pub free : (k : ℕ) → k < from → is_read cubes k ≡ false
