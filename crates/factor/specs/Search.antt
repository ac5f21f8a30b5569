-- The search for the literal that stands in most cubes. For private contracts alone.
use Rattle.std.specs.Prelude.{◌≡◌, ℕ, ◌<◌, ◌≤◌, nat_lt, if◌then◌else◌, Option, Some, None, List}
use Rattle.ae_base.specs.Cube.{Product}
use Rattle.factor.specs.declared.literals.Literal.{Literal}
use Rattle.factor.specs.declared.literals.Counted.{Counted}
use Rattle.factor.specs.Literals.{count, IsMost, NoneTwice, Precedes}

-- in how many cubes the best literal so far stands; 1 where there is none
abbrev pub best_count : Option Counted → ℕ
best_count None = 1
best_count (Some best) = best.count

-- a literal that stands in more cubes takes the place of the best
abbrev pub better : List Product → Option Counted → Literal → Option Counted
better cs best t = if nat_lt (best_count best) (count t cs) then Some (record { literal = t; count = count t cs }) else best

-- of some literals the one that stands in most cubes, the first of those, where one stands in two
abbrev pub IsFound : List Product → Option Counted → Type 0
IsFound cs None = Unit {0}
IsFound cs (Some best) = (best.count ≡ count best.literal cs) × (2 ≤ best.count) × ((u : Literal) → Precedes u best.literal → count u cs < best.count)

pub record IsBest (cs : List Product) (Seen : Literal → Type 0) (best : Option Counted) : Type 0 where
  pub found : IsFound cs best
  pub most : (u : Literal) → Seen u → count u cs ≤ best_count best

-- what the search answers
abbrev pub IsPicked : List Product → Option Literal → Type 0
IsPicked cs None = NoneTwice cs
IsPicked cs (Some t) = IsMost cs t
