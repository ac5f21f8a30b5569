-- For private contracts alone: what the reader keeps of the lines so far, and what one more line adds to it.
use Rattle.std.specs.Prelude.{◌≡◌, ℕ, ◌-◌, ◌==◌, Bool, true, not, ◌||◌, nat_lt, if◌then◌else◌, Option, Some, None, is_some, Result, Ok, Err, List, [], ◌∷◌, ◌++◌, length, drop, map, filter, slice_get, slice_index_or, option_map, unwrap_or, codes}
use Rattle.std.specs.List.{list_any, list_all, flat_map, concat}
use Rattle.ae_lex.specs.Heads.{Word, heads, is_row}
use Rattle.ae_lex.specs.declared.errors.TextErr.{TextErr}
use Rattle.ae_lex.specs.declared.errors.TextErr.TheVariants as errors
use Rattle.blif_read.specs.declared.fault.BlifFault.{BlifFault}
use Rattle.blif_read.specs.declared.fault.BlifFault.TheVariants.{TwoModels, AfterEnd, BadName, BadRow, MixedRows, StrayRow, TooManyInputs, TooManyOutputs}
use Rattle.blif_read.specs.declared.fault.NetLimits.{NetLimits}
use Rattle.blif_read.specs.declared.seen.OpenCover.{OpenCover}
use Rattle.blif_read.specs.declared.seen.Seen.{Seen}
use Rattle.blif_read.specs.Says.{Declared, inputs_in, outputs_in, gates_of, outs, last_cover, heading_faults, names_faults, other_faults}
use Rattle.blif_read.specs.Words as words

-- of a cover the number of its pins, and the last character of its first row
abbrev pub open_cover : List (List Word) → Option OpenCover
open_cover cover =
    let names = slice_index_or cover 0 [] in
    if heads (codes ".names") names then Some (record { pins = length (drop 1 names) - 1; end_char = option_map words.row_end (slice_get (map concat (drop 1 cover)) 0) }) else None

-- the lines of a model, or those of the don't care part of a model that declares this
unfoldable pub seen : Option Declared → List (List Word) → Seen
seen model lines =
    record {
      in_part = is_some model;
      ended = list_any (heads (codes ".end")) lines;
      has_model = list_any (heads (codes ".model")) lines;
      model = slice_get (flat_map (drop 1) (filter (heads (codes ".model")) lines)) 0;
      inputs = inputs_in model lines;
      outputs = outputs_in model lines;
      driven = outs (gates_of lines);
      cover = open_cover (last_cover lines);
    }

-- ---- the faults of a line

abbrev pub row_faults_in : Option OpenCover → List ℕ → List (Bool × BlifFault)
row_faults_in None r = (true, StrayRow) ∷ []
row_faults_in (Some cover) r = (not (words.is_row cover.pins r), BadRow) ∷ (not (unwrap_or cover.end_char (words.row_end r) == words.row_end r), MixedRows) ∷ []

unfoldable pub faults_in : NetLimits → Seen → List Word → List (Bool × BlifFault)
faults_in limits seen line =
    let args = drop 1 line in
    if heads (codes ".model") line then (seen.ended || (seen.in_part || seen.has_model), TwoModels) ∷ (nat_lt 1 (length args) || not (list_all (words.is_name_under limits) args), BadName) ∷ []
    else if heads (codes ".end") line then []
    else (seen.ended, AfterEnd) ∷ (
    if heads (codes ".inputs") line then heading_faults limits seen.in_part TooManyInputs seen.outputs seen.driven seen.inputs args
    else if heads (codes ".outputs") line then heading_faults limits seen.in_part TooManyOutputs seen.inputs [] seen.outputs args
    else if heads (codes ".names") line then names_faults limits seen.in_part seen.inputs seen.driven args
    else if is_row line then row_faults_in seen.cover (concat line)
    else other_faults seen.in_part line)

-- ---- with one more line that has no fault

abbrev pub with_end : List ℕ → OpenCover → OpenCover
with_end r cover = record { pins = cover.pins; end_char = Some (unwrap_or cover.end_char (words.row_end r)) }

-- names with those that a line declares: in a don't care part it declares none
abbrev pub declared_more : Bool → List Word → List Word → List Word
declared_more in_part names args = if in_part then names else names ++ args

unfoldable pub with_line : Seen → List Word → Seen
with_line seen line =
    let args = drop 1 line in
    record {
      in_part = seen.in_part;
      ended = heads (codes ".end") line || seen.ended;
      has_model = heads (codes ".model") line || seen.has_model;
      model = if heads (codes ".model") line then slice_get args 0 else seen.model;
      inputs = if heads (codes ".inputs") line then declared_more seen.in_part seen.inputs args else seen.inputs;
      outputs = if heads (codes ".outputs") line then declared_more seen.in_part seen.outputs args else seen.outputs;
      driven = if heads (codes ".names") line then seen.driven ++ words.gate_name args ∷ [] else seen.driven;
      cover = if is_row line then option_map (with_end (concat line)) seen.cover else open_cover (line ∷ []);
    }

-- ---- answers

-- this fault of a text, or where it has none what then holds; want of memory says nothing
abbrev pub Tells : {X : Type 0} → Option (ℕ × BlifFault) → Type 0 → Result X (TextErr BlifFault) → Type 0
Tells fault next (Ok x) = (fault ≡ None) × next
Tells fault next (Err (errors.At number what)) = fault ≡ Some (number, what)
Tells fault next (Err errors.Memory) = Unit {0}
