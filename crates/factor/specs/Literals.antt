-- Literals in lists of cubes: which stands in most cubes, which cubes hold it, and what is left of them.
use Rattle.std.specs.Prelude.{◌≡◌, ℕ, ◌<◌, ◌≤◌, ◌==◌, Bool, true, false, not, ◌&&◌, if◌then◌else◌, ◌⊎◌, List, map, filter, count_by}
use Rattle.ae_base.specs.Mask as set
use Rattle.ae_base.specs.Cube as cube
use Rattle.ae_base.specs.Cube.{Product}
use Rattle.factor.specs.declared.literals.Literal.{Literal}

-- the literal stands in the product
abbrev pub stands : Literal → Product → Bool
stands t c = if t.plain then set.has c.pos t.input else set.has c.neg t.input

-- the product has no literal: it is the constant 1
abbrev pub is_empty : Product → Bool
is_empty c = c.pos == set.empty && c.neg == set.empty

-- the product with one more literal
abbrev pub with_literal : Literal → Product → Product
with_literal t c = cube.with c t.input t.plain

-- the product without the literal
abbrev pub without_literal : Literal → Product → Product
without_literal t c = if t.plain then record c { pos = set.without c.pos t.input } else record c { neg = set.without c.neg t.input }

-- the number of cubes that the literal stands in
abbrev pub count : Literal → List Product → ℕ
count t cs = count_by (stands t) cs

-- the cubes that hold the literal, each without it
abbrev pub holding : Literal → List Product → List Product
holding t cs = map (without_literal t) (filter (stands t) cs)

-- the cubes that do not hold it
abbrev pub others : Literal → List Product → List Product
others t cs = filter (λ c. not (stands t c)) cs

-- a lesser input, or the plain literal of an input before its complemented one
abbrev pub Precedes : Literal → Literal → Type 0
Precedes u t = (u.input < t.input) ⊎ ((u.input ≡ t.input) × (u.plain ≡ true) × (t.plain ≡ false))

-- The literal stands in two or more cubes, and in most: no other stands in more, and none before it in as many.
pub record IsMost (cs : List Product) (t : Literal) : Type 0 where
  pub twice : 2 ≤ count t cs
  pub most : (u : Literal) → count u cs ≤ count t cs
  pub first : (u : Literal) → Precedes u t → count u cs < count t cs

-- no literal stands in two cubes
abbrev pub NoneTwice : List Product → Type 0
NoneTwice cs = (u : Literal) → count u cs ≤ 1
