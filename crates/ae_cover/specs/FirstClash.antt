-- The first clash of a cover.
use Rattle.std.specs.Prelude.{◌≡◌, ℕ, zero, suc, ◌<◌, ◌⊎◌, ◌&&◌, if◌then◌else◌, List, length, slice_get, Option, Some, None}
use Rattle.std.specs.Option.{option_or, option_map_or}
use Rattle.ae_cover.specs.declared.parts.Row.{Row}
use Rattle.ae_cover.specs.declared.parts.Clash.{Clash}
use Rattle.ae_cover.specs.Cover.{Table, has_mark, is_one, is_zero}
use Rattle.ae_base.specs.Cube.{meet}
use Rattle.ae_cover.specs.Clash.{zero_is_off}

-- by the output, then by the row with One, then by the row with Zero
abbrev pub IsBefore : Clash → Clash → Type 0
IsBefore c d =
    (c.output < d.output)
    ⊎ ((c.output ≡ d.output) × (c.on_row < d.on_row))
    ⊎ ((c.output ≡ d.output) × (c.on_row ≡ d.on_row) × (c.off_row < d.off_row))

-- what f answers first for a number below n, the least number first
abbrev pub first_below : {X : Type 0} → ℕ → (ℕ → Option X) → Option X
first_below zero f = None
first_below (suc n) f = option_or (first_below n f) (f n)

-- the row for ON and that for OFF disagree at the output
abbrev pub clash : ℕ → ℕ → ℕ → Row → Row → Option Clash
clash output on_row off_row on off =
    if has_mark is_one output on && has_mark is_zero output off && meet on.cube off.cube then Some (record { output = output; on_row = on_row; off_row = off_row })
    else None

-- the first clash of a row with One at the output
abbrev pub clash_of : List Row → ℕ → ℕ → Row → Option Clash
clash_of rows output on_row on = first_below (length rows) (λ off_row. option_map_or (clash output on_row off_row on) (slice_get rows off_row) None)

-- the first clash at an output
abbrev pub clash_at : List Row → ℕ → Option Clash
clash_at rows output = first_below (length rows) (λ on_row. option_map_or (clash_of rows output on_row) (slice_get rows on_row) None)

-- the least clash by output, then by the row for ON, then by the row for OFF
abbrev pub least_clash : ℕ → List Row → Option Clash
least_clash outputs rows = first_below outputs (clash_at rows)

unfoldable pub first_clash : Table → Option Clash
first_clash t = if zero_is_off t.kind then least_clash (length t.outputs) t.rows else None
