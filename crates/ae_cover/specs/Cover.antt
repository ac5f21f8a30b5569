-- Covers: rows of cubes, and what they specify of each output (the kinds of Berkeley PLA files).
use Rattle.std.specs.Prelude.{◌≡◌, ◌≢◌, ℕ, ◌<◌, ◌≤◌, Bool, true, false, ◌&&◌, if◌then◌else◌, List, ◌++◌, length, slice_get, codes, All, AllPairs}
use Rattle.std.specs.List.{list_any}
use Rattle.std.specs.Option.{option_map_or}
use Rattle.ae_base.specs.declared.limits.TheConstants.{SOURCE_LINES}
use Rattle.ae_base.specs.Mask.{Set, has}
use Rattle.ae_base.specs.Cube.{IsProduct, holds}
use Rattle.ae_base.specs.Name.{is_source_name}
use Rattle.ae_base.specs.Source.{Source, Specified, On, Off, Free}
use Rattle.ae_cover.specs.declared.cover.TheConstants.{PLA_ROWS}
use Rattle.ae_cover.specs.declared.parts.Kind.{Kind}
use Rattle.ae_cover.specs.declared.parts.Kind.TheVariants.{F, Fd, Fr, Fdr}
use Rattle.ae_cover.specs.declared.parts.Mark.{Mark}
use Rattle.ae_cover.specs.declared.parts.Mark.TheVariants.{One, Zero, Dash}
use Rattle.ae_cover.specs.declared.parts.Row.{Row}

-- a cover's names of inputs and outputs, its kind and its rows
pub record Table : Type 0 where
  pub inputs : List (List ℕ)
  pub outputs : List (List ℕ)
  pub kind : Kind
  pub rows : List Row

-- ---- which tables are covers

-- from 1 to as many as a source may have
abbrev pub IsCount : ℕ → Type 0
IsCount n = (0 < n) × (n ≤ SOURCE_LINES)

-- a row of n inputs and m outputs: its literals are of inputs, and it has a mark for each output
pub record IsRow (n m : ℕ) (row : Row) : Type 0 where
  pub is_product : IsProduct row.cube
  pub pos : (j : ℕ) → has row.cube.pos j ≡ true → j < n
  pub neg : (j : ℕ) → has row.cube.neg j ≡ true → j < n
  pub marks : length row.outs ≡ m

pub record IsCover (t : Table) : Type 0 where
  pub inputs : IsCount (length t.inputs)
  pub outputs : IsCount (length t.outputs)
  pub named : All (λ name. is_source_name name ≡ true) (t.inputs ++ t.outputs)
  pub distinct : AllPairs (λ name other. name ≢ other) (t.inputs ++ t.outputs)
  pub few : length t.rows ≤ PLA_ROWS
  pub rows : All (IsRow (length t.inputs) (length t.outputs)) t.rows

-- ---- what a cover specifies

abbrev pub is_one : Mark → Bool
is_one One = true
is_one _ = false

abbrev pub is_zero : Mark → Bool
is_zero Zero = true
is_zero _ = false

abbrev pub is_dash : Mark → Bool
is_dash Dash = true
is_dash _ = false

-- the row has such a mark for output o
abbrev pub has_mark : (Mark → Bool) → ℕ → Row → Bool
has_mark is_such o row = option_map_or is_such (slice_get row.outs o) false

-- some row with such a mark for output o holds the point x
abbrev pub some_row : (Mark → Bool) → List Row → ℕ → Set → Bool
some_row is_such rows o x = list_any (λ row. has_mark is_such o row && holds row.cube x) rows

-- what is specified where no row with One holds the point, by whether some row with Zero and some row with Dash holds it
abbrev pub not_one : Kind → Bool → Bool → Specified
not_one F zero dash = Off
not_one Fd zero dash = if dash then Free else Off
not_one Fr zero dash = if zero then Off else Free
not_one Fdr zero dash = if zero then Off else Free

-- what a cover specifies for output o at point x
unfoldable pub specified : Table → ℕ → Set → Specified
specified t o x = if some_row is_one t.rows o x then On else not_one t.kind (some_row is_zero t.rows o x) (some_row is_dash t.rows o x)

-- the source that a cover is; a PLA text gives its model no name
abbrev pub source_of : Table → Source
source_of t = record { model = codes "andexor"; inputs = t.inputs; outputs = t.outputs; specified = specified t }
