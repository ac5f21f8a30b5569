-- The least clash among some of the pairs of rows. For private contracts alone.
use Rattle.std.specs.Prelude.{◌≡◌, ℕ, ◌<◌, ◌≤◌, Bool, true, false, ◌&&◌, ◌||◌, ◌==◌, nat_lt, if◌then◌else◌, List, slice_get, Option, Some, None}
use Rattle.std.specs.Option.{option_map_or}
use Rattle.ae_base.specs.Mask.{Set, both, least, where_below}
use Rattle.ae_base.specs.Cube.{Product}
use Rattle.ae_cover.specs.declared.parts.Mark.{Mark}
use Rattle.ae_cover.specs.declared.parts.Mark.TheVariants.{One, Zero, Dash, Void}
use Rattle.ae_cover.specs.declared.parts.Row.{Row}
use Rattle.ae_cover.specs.declared.parts.Clash.{Clash}
use Rattle.ae_cover.specs.Cover.{has_mark, is_one, is_zero, is_dash}
use Rattle.ae_base.specs.Cube.{meet}
use Rattle.ae_cover.specs.FirstClash.{IsBefore}

-- the row for ON and that for OFF disagree at the output
pub record Disagree (rows : List Row) (c : Clash) : Type 0 where
  pub on : Row
  pub off : Row
  pub on_row : slice_get rows c.on_row ≡ Some on
  pub off_row : slice_get rows c.off_row ≡ Some off
  pub one : has_mark is_one c.output on ≡ true
  pub zero : has_mark is_zero c.output off ≡ true
  pub meet_is : meet on.cube off.cube ≡ true

-- of the clashes in R the least one
abbrev pub IsLeastIn : List Row → (Clash → Type 0) → Option Clash → Type 0
IsLeastIn rows R None = (d : Clash) → Disagree rows d → R d → ⊥
IsLeastIn rows R (Some c) = Disagree rows c × R c × ((d : Clash) → Disagree rows d → R d → IsBefore d c → ⊥)

-- of a row for ON from start on and below stop, at an output below the limit
abbrev pub InBlock : ℕ → ℕ → ℕ → Clash → Type 0
InBlock start stop limit c = (start ≤ c.on_row) × (c.on_row < stop) × (c.output < limit)

-- those of one row for OFF
abbrev pub InRow : ℕ → ℕ → ℕ → ℕ → Clash → Type 0
InRow start stop limit off_row c = InBlock start stop limit c × (c.off_row ≡ off_row)

abbrev pub is_void : Mark → Bool
is_void Void = true
is_void _ = false

-- the mark is the one that is wanted
abbrev pub is_mark : Mark → Mark → Bool
is_mark One = is_one
is_mark Zero = is_zero
is_mark Dash = is_dash
is_mark Void = is_void

-- the outputs below n at which the row has such a mark
abbrev pub marked : (Mark → Bool) → ℕ → Row → Set
marked is_such n row = where_below n (λ o. has_mark is_such o row)

-- those outputs of the row at the place i
abbrev pub ones_at : List Row → ℕ → ℕ → Set
ones_at rows limit i = option_map_or (marked is_one limit) (slice_get rows i) 0

-- at the output the two rows clash, where their cubes meet
abbrev pub at_output : Bool → ℕ → ℕ → ℕ → Option Clash
at_output meets on_row off_row output = if meets then Some (record { output = output; on_row = on_row; off_row = off_row }) else None

-- the least clash of a row with One at some outputs, and one with Zero at others
abbrev pub of_pair : Set → Set → Product → Product → ℕ → ℕ → Option Clash
of_pair ones zeros on off on_row off_row = option_map_or (at_output (meet on off) on_row off_row) (least (both ones zeros)) None

-- IsBefore as a test
abbrev pub is_before : Clash → Clash → Bool
is_before c d = nat_lt c.output d.output || (c.output == d.output && (nat_lt c.on_row d.on_row || (c.on_row == d.on_row && nat_lt c.off_row d.off_row)))

-- the one that is before the other, where there are two
abbrev pub lesser : Option Clash → Option Clash → Option Clash
lesser None found = found
lesser (Some c) None = Some c
lesser (Some c) (Some d) = if is_before d c then Some d else Some c
