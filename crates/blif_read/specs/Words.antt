-- What the words of a line of a BLIF text say.
use Rattle.std.specs.Prelude.{ℕ, ◌+◌, ◌-◌, ◌==◌, Bool, ◌&&◌, List, [], ◌∷◌, length, take, slice_index, codes}
use Rattle.std.specs.List.{list_all}
use Rattle.ae_base.specs.declared.limits.TheConstants.{SOURCE_LINES, WRITTEN_LINES}
use Rattle.ae_base.specs.Digits.{is_bit, is_literal}
use Rattle.ae_base.specs.Name.{is_name, is_source_name}
use Rattle.ae_lex.specs.Heads.{Word, word}
use Rattle.blif_read.specs.declared.fault.NetLimits.{NetLimits}
use Rattle.blif_read.specs.declared.fault.NetLimits.TheVariants.{Source, Written}

-- the most inputs, and the most outputs
abbrev pub most_lines : NetLimits → ℕ
most_lines Source = SOURCE_LINES
most_lines Written = WRITTEN_LINES

-- a name, short enough under the limits
abbrev pub is_name_under : NetLimits → Word → Bool
is_name_under Source w = is_source_name w
is_name_under Written w = is_name w

-- statements of the format that are not read
abbrev pub unsupported : List Word
unsupported = codes ".latch" ∷ codes ".mlatch" ∷ codes ".subckt" ∷ codes ".gate" ∷ codes ".search" ∷ codes ".exdc" ∷ codes ".clock" ∷ codes ".area" ∷ codes ".delay" ∷ codes ".wire"
    ∷ codes ".wire_load_slope" ∷ codes ".input_arrival" ∷ codes ".output_required" ∷ codes ".default_input_arrival" ∷ codes ".default_output_required" ∷ codes ".start_kiss"
    ∷ codes ".end_kiss" ∷ codes ".latch_order" ∷ codes ".code" ∷ []

-- of the words after `.names` the last is the gate's name, and the others are its pins
abbrev pub gate_name : List Word → Word
gate_name words = word words (length words - 1)

abbrev pub pin_names : List Word → List Word
pin_names words = take (length words - 1) words

-- the last character of a row
abbrev pub row_end : List ℕ → ℕ
row_end r = slice_index r (length r - 1)

-- a row over k pins: k characters 0, 1 or -, and then 0 or 1
abbrev pub is_row : ℕ → List ℕ → Bool
is_row k r = length r == k + 1 && list_all is_literal (take k r) && is_bit (slice_index r k)
