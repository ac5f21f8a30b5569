-- What a BLIF text says: a network, or its first fault. A line is a list of words. What is said of lines holds for those of a model, and for
-- those of the don't care part that a `.exdc` begins: it may name what its model declares.
use Rattle.std.specs.Prelude.{ℕ, zero, suc, ◌-◌, ◌==◌, Bool, true, not, ◌&&◌, ◌||◌, nat_le, nat_lt, if◌then◌else◌, Option, Some, None, is_some, Result, List, [], ◌∷◌, ◌++◌, length, take, drop, map, filter, fold, slice_index_or, option_map, codes}
use Rattle.std.specs.List.{list_any, list_all, find, flat_map, concat, before_first}
use Rattle.std.specs.Option.{option_or}
use Rattle.ae_base.specs.declared.limits.TheConstants.{PINS, GATES}
use Rattle.ae_base.specs.Digits.{cube_said}
use Rattle.ae_base.specs.Twins.{is_among}
use Rattle.ae_lex.specs.declared.text.Style.TheVariants.{Blif}
use Rattle.ae_lex.specs.First.{first_of, at_line, first_fault, judged}
use Rattle.ae_lex.specs.Heads.{Word, word, heads, is_row}
use Rattle.ae_lex.specs.Reads.{words_of}
use Rattle.ae_lex.specs.Words.{WordLine, word_lines, last_line}
use Rattle.ae_net.specs.Named.{NamedGate, net_of}
use Rattle.ae_net.specs.Network.{Network}
use Rattle.blif_read.specs.declared.fault.NetLimits.{NetLimits}
use Rattle.blif_read.specs.declared.fault.TheConstants.{PART_GATES}
use Rattle.blif_read.specs.declared.fault.BlifFault.{BlifFault}
use Rattle.blif_read.specs.declared.fault.BlifFault.TheVariants.{TwoModels, AfterEnd, Unsupported, Unknown, BadName, BadRow, MixedRows, StrayRow, DefinedTwice, Undefined, Cycle, NameTwice, OutputIsInput, NoInputs, NoOutputs, TooManyInputs, TooManyOutputs, TooManyPins, TooManyGates, ExdcTwice, ExdcName}
use Rattle.blif_read.specs.Words as words

-- ---- what lines say

-- the names that they declare as inputs and as outputs
abbrev pub inputs_of : List (List Word) → List Word
inputs_of lines = flat_map (drop 1) (filter (heads (codes ".inputs")) lines)

abbrev pub outputs_of : List (List Word) → List Word
outputs_of lines = flat_map (drop 1) (filter (heads (codes ".outputs")) lines)

-- what a model declares, for the don't care part after it
pub record Declared : Type 0 where
  pub inputs : List Word
  pub outputs : List Word

-- the inputs that gates may read, and the outputs: those of the lines, or in a don't care part those of the model
abbrev pub inputs_in : Option Declared → List (List Word) → List Word
inputs_in None lines = inputs_of lines
inputs_in (Some model) lines = model.inputs

abbrev pub outputs_in : Option Declared → List (List Word) → List Word
outputs_in None lines = outputs_of lines
outputs_in (Some model) lines = model.outputs

-- the name of the model: it is `unnamed` where no name is given
abbrev pub model_of : List (List Word) → Word
model_of lines = slice_index_or (flat_map (drop 1) (filter (heads (codes ".model")) lines)) 0 (codes "unnamed")

-- The gate of a `.names` with these words after it, and with the characters of its rows. Of a row's characters those before the last are
-- a cube over the pins, and the last is 1 where the cubes are those of the ON-set.
abbrev pub gate_of : List Word → List (List ℕ) → NamedGate
gate_of names rows =
    record { out = words.gate_name names; pins = words.pin_names names; rows = map (λ r. cube_said (take (length names - 1) r)) rows; on = length rows == 0 || words.row_end (word rows 0) == 49 }

-- each `.names` with the rows that follow it
unfoldable pub gates_of : List (List Word) → List NamedGate
gates_of [] = []
gates_of (line ∷ lines) = (if heads (codes ".names") line then gate_of (drop 1 line) (map concat (before_first (λ l. not (is_row l)) lines)) ∷ [] else []) ++ gates_of lines

-- ---- the order of gates

-- the names of the gates
abbrev pub outs : List NamedGate → List Word
outs gates = map (λ gate. gate.out) gates

-- it isn't placed, and each pin is an input or a placed gate
abbrev pub can_go : List Word → List NamedGate → NamedGate → Bool
can_go inputs placed gate = not (is_among gate.out (outs placed)) && list_all (λ pin. is_among pin (inputs ++ outs placed)) gate.pins

-- So many times, while one can go, the first in file order that can go is placed after the placed ones.
unfoldable pub place : List Word → List NamedGate → ℕ → List NamedGate → List NamedGate
place inputs gates zero placed = placed
place inputs gates (suc steps) placed = elim (find (can_go inputs placed) gates) [
  | None ↦ placed
  | Some gate ↦ place inputs gates steps (placed ++ gate ∷ [])
]

-- those that can be placed, in the order of placing
abbrev pub placed : List Word → List NamedGate → List NamedGate
placed inputs gates = place inputs gates (length gates) []

-- ---- the faults of a line: conditions, each with its fault, in order

-- those of names that are declared, each judged with those of its kind before it, those of the other kind, and gates that it may not be
abbrev pub declared_faults : NetLimits → BlifFault → List Word → List Word → List Word → List Word → List (Bool × BlifFault)
declared_faults limits too_many others gates before [] = []
declared_faults limits too_many others gates before (w ∷ ws) =
    (not (words.is_name_under limits w), BadName) ∷ (is_among w before, NameTwice) ∷ (is_among w others, OutputIsInput) ∷ (is_among w gates, DefinedTwice)
    ∷ (nat_le (words.most_lines limits) (length before), too_many) ∷ declared_faults limits too_many others gates (before ++ w ∷ []) ws

-- in a don't care part: those of names that the model is to declare
abbrev pub listed_faults : NetLimits → List Word → List Word → List (Bool × BlifFault)
listed_faults limits known [] = []
listed_faults limits known (w ∷ ws) = (not (words.is_name_under limits w), BadName) ∷ (not (is_among w known), ExdcName) ∷ listed_faults limits known ws

-- those of the names after `.inputs` or `.outputs`, in a don't care part or not
abbrev pub heading_faults : NetLimits → Bool → BlifFault → List Word → List Word → List Word → List Word → List (Bool × BlifFault)
heading_faults limits in_part too_many others gates names ws = if in_part then listed_faults limits names ws else declared_faults limits too_many others gates names ws

-- the most `.names`
abbrev pub most_gates : Bool → ℕ
most_gates in_part = if in_part then PART_GATES else GATES

-- those of the words after `.names`, with these inputs and the gates before it
abbrev pub names_faults : NetLimits → Bool → List Word → List Word → List Word → List (Bool × BlifFault)
names_faults limits in_part inputs gates args =
    (length args == 0 || not (list_all (words.is_name_under limits) args), BadName) ∷ (nat_lt PINS (length args - 1), TooManyPins)
    ∷ (nat_le (most_gates in_part) (length gates), TooManyGates) ∷ (is_among (words.gate_name args) (inputs ++ gates), DefinedTwice) ∷ []

-- of lines the last that is no row, with the rows after it
abbrev pub last_cover : List (List Word) → List (List Word)
last_cover lines = fold (λ cover line. if is_row line then cover ++ line ∷ [] else line ∷ []) [] lines

-- those of a row's characters after such lines: a row belongs to a `.names`, and ends as the first one there
abbrev pub row_faults : List (List Word) → List ℕ → List (Bool × BlifFault)
row_faults cover r =
    let names = slice_index_or cover 0 [] in
    (not (heads (codes ".names") names), StrayRow) ∷ (not (words.is_row (length (drop 1 names) - 1) r), BadRow)
    ∷ (not (words.row_end (slice_index_or (map concat (drop 1 cover)) 0 r) == words.row_end r), MixedRows) ∷ []

-- those of a line that is none of the format's statements that are read, nor a row: a `.exdc` is one more in a don't care part
abbrev pub other_faults : Bool → List Word → List (Bool × BlifFault)
other_faults in_part line = (in_part && heads (codes ".exdc") line, ExdcTwice) ∷ (is_among (word line 0) words.unsupported, Unsupported) ∷ (true, Unknown) ∷ []

-- Those of a line after these lines, all of a model or all of the don't care part of a model that declares this. After `.end` only a further
-- one may stand. `.model` has one name or none, and stands in no don't care part.
unfoldable pub faults : NetLimits → Option Declared → List (List Word) → List Word → List (Bool × BlifFault)
faults limits model before line =
    let args = drop 1 line in
    let in_part = is_some model in
    let ended = list_any (heads (codes ".end")) before in
    let inputs = inputs_in model before in
    let outputs = outputs_in model before in
    let gates = outs (gates_of before) in
    if heads (codes ".model") line then (ended || (in_part || list_any (heads (codes ".model")) before), TwoModels) ∷ (nat_lt 1 (length args) || not (list_all (words.is_name_under limits) args), BadName) ∷ []
    else if heads (codes ".end") line then []
    else (ended, AfterEnd) ∷ (
    if heads (codes ".inputs") line then heading_faults limits in_part TooManyInputs outputs gates inputs args
    else if heads (codes ".outputs") line then heading_faults limits in_part TooManyOutputs inputs [] outputs args
    else if heads (codes ".names") line then names_faults limits in_part inputs gates args
    else if is_row line then row_faults (last_cover before) (concat line)
    else other_faults in_part line)

-- ---- the whole text

-- a word that is none of the known names
abbrev pub some_unknown : List Word → List Word → Bool
some_unknown known names = list_any (λ name. not (is_among name known)) names

-- the fault of the first line with this first word whose other words pass the test
abbrev pub where_any : Word → (List Word → Bool) → BlifFault → List WordLine → Option (ℕ × BlifFault)
where_any head test fault lines = option_map (λ line. (line.number, fault)) (find (λ line. heads head line.words && test (drop 1 line.words)) lines)

-- the first `.names` with a pin that is not known, the first `.outputs` with such a name, and the first `.names` whose gate isn't placed
abbrev pub undefined_pin : List Word → List WordLine → Option (ℕ × BlifFault)
undefined_pin known lines = where_any (codes ".names") (λ args. some_unknown known (words.pin_names args)) Undefined lines

abbrev pub undefined_output : List Word → List WordLine → Option (ℕ × BlifFault)
undefined_output known lines = where_any (codes ".outputs") (some_unknown known) Undefined lines

abbrev pub unplaced : List Word → List WordLine → Option (ℕ × BlifFault)
unplaced names lines = where_any (codes ".names") (λ args. not (is_among (words.gate_name args) names)) Cycle lines

-- That of a text with so many physical lines, whose lines have no fault and say these inputs, outputs and gates, of which these are placed.
unfoldable pub whole_fault : ℕ → List WordLine → List Word → List Word → List Word → List Word → Option (ℕ × BlifFault)
whole_fault last lines inputs outputs gates names =
    option_or (at_line last (first_of ((length inputs == 0, NoInputs) ∷ (length outputs == 0, NoOutputs) ∷ [])))
    (option_or (undefined_pin (inputs ++ gates) lines) (option_or (undefined_output (inputs ++ gates) lines) (unplaced names lines)))

-- the fault of a model's lines of which none has a fault, in a text with so many physical lines
abbrev pub model_fault : ℕ → List WordLine → Option (ℕ × BlifFault)
model_fault last lines =
    let said = words_of lines in
    let inputs = inputs_of said in
    let gates = gates_of said in
    whole_fault last lines inputs (outputs_of said) (outs gates) (outs (placed inputs gates))

-- the network that they say has the placed gates
abbrev pub model_net : List (List Word) → Network
model_net said =
    let inputs = inputs_of said in
    net_of (model_of said) inputs (outputs_of said) (placed inputs (gates_of said))

-- What they say under the limits: the first faulty line decides, and only where there is none the whole.
abbrev pub model_says : NetLimits → ℕ → List WordLine → Result Network (ℕ × BlifFault)
model_says limits last lines = judged (option_or (first_fault (faults limits None) [] lines) (model_fault last lines)) (model_net (words_of lines))

unfoldable pub blif_says : NetLimits → List ℕ → Result Network (ℕ × BlifFault)
blif_says limits text = model_says limits (last_line text) (word_lines Blif text)
