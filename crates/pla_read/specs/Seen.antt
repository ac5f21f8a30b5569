-- For private contracts alone: what the reader keeps of the lines so far, and what one more line adds to it.
use Rattle.std.specs.Prelude.{ℕ, ◌==◌, Bool, not, ◌||◌, if◌then◌else◌, List, [], ◌∷◌, ◌++◌, length, map, filter, drop, codes, Option, Some, option_map, is_some, unwrap_or}
use Rattle.std.specs.Str.{bytes_eq}
use Rattle.ae_cover.specs.Cover.{Table}
use Rattle.ae_cover.specs.declared.parts.Kind.{Kind}
use Rattle.ae_cover.specs.declared.parts.Kind.TheVariants.{Fd}
use Rattle.ae_cover.specs.declared.parts.Row.{Row}
use Rattle.ae_lex.specs.Heads.{Word, word, heads, is_row, after}
use Rattle.pla_read.specs.Pla.{count_in, names_or, line_faults}
use Rattle.pla_read.specs.Words.{count_said, kind_said, joined, row_of}
use Rattle.pla_read.specs.declared.fault.PlaFault.{PlaFault}

pub record Seen : Type 0 where
  pub inputs : Option ℕ
  pub outputs : Option ℕ
  pub input_names : Option (List Word)
  pub output_names : Option (List Word)
  pub kind : Option Kind
  pub rows : List Row

unfoldable pub seen : List (List Word) → Seen
seen lines =
    record {
      inputs = count_in (codes ".i") lines;
      outputs = count_in (codes ".o") lines;
      input_names = after (codes ".ilb") lines;
      output_names = after (codes ".ob") lines;
      kind = option_map kind_said (after (codes ".type") lines);
      rows = map (λ line. row_of (unwrap_or (count_in (codes ".i") lines) 0) (joined line)) (filter is_row lines);
    }

unfoldable pub table_of : Seen → Table
table_of seen =
    record {
      inputs = names_or seen.input_names 120 seen.inputs;
      outputs = names_or seen.output_names 102 seen.outputs;
      kind = unwrap_or seen.kind Fd;
      rows = seen.rows;
    }

-- a line with this header stands before, or a row
abbrev pub is_late : Seen → Word → Bool
is_late seen header =
    (if bytes_eq header (codes ".i") then is_some seen.inputs
    else if bytes_eq header (codes ".o") then is_some seen.outputs
    else if bytes_eq header (codes ".ilb") then is_some seen.input_names
    else if bytes_eq header (codes ".ob") then is_some seen.output_names
    else is_some seen.kind) || not (length seen.rows == 0)

abbrev pub faults_in : Seen → List Word → List (Bool × PlaFault)
faults_in seen line = line_faults (is_late seen (word line 0)) seen.inputs seen.outputs (length seen.rows) line

-- with one more row of these characters
abbrev pub with_row : Seen → List ℕ → Seen
with_row seen chars = record seen { rows = seen.rows ++ row_of (unwrap_or seen.inputs 0) chars ∷ [] }

-- with one more line that has no fault
unfoldable pub with_line : Seen → List Word → Seen
with_line seen line =
    let words = drop 1 line in
    if heads (codes ".i") line then record seen { inputs = Some (count_said words) }
    else if heads (codes ".o") line then record seen { outputs = Some (count_said words) }
    else if heads (codes ".ilb") line then record seen { input_names = Some words }
    else if heads (codes ".ob") line then record seen { output_names = Some words }
    else if heads (codes ".type") line then record seen { kind = Some (kind_said words) }
    else if is_row line then with_row seen (joined line) else seen
