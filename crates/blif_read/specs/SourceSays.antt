-- What a BLIF text with external don't cares says: a network, with one of its don't cares where the text has a `.exdc`, or the first fault.
use Rattle.std.specs.Prelude.{ℕ, ◌+◌, Bool, not, ◌||◌, if◌then◌else◌, Option, Some, None, Result, Ok, Err, List, [], ◌∷◌, ◌++◌, take, drop, map, filter, position, is_some, slice_index_or, codes}
use Rattle.std.specs.Option.{option_or}
use Rattle.ae_base.specs.Twins.{is_among}
use Rattle.ae_lex.specs.declared.text.Style.TheVariants.{Blif}
use Rattle.ae_lex.specs.First.{first_fault, judged}
use Rattle.ae_lex.specs.Heads.{Word, heads}
use Rattle.ae_lex.specs.Reads.{words_of}
use Rattle.ae_lex.specs.Words.{WordLine, word_lines, last_line}
use Rattle.ae_net.specs.Named.{NamedGate, net_of}
use Rattle.ae_net.specs.NetSource.{NetSource}
use Rattle.ae_net.specs.Network.{Network}
use Rattle.blif_read.specs.declared.fault.BlifFault.{BlifFault}
use Rattle.blif_read.specs.declared.fault.NetLimits.TheVariants as limits
use Rattle.blif_read.specs.Says.{Declared, inputs_of, outputs_of, model_of, gate_of, gates_of, outs, placed, faults, undefined_pin, unplaced, model_fault, model_net, model_says}

-- ---- the two parts of a text

-- a `.exdc` or an `.end`
abbrev pub ends_model : List Word → Bool
ends_model line = heads (codes ".exdc") line || heads (codes ".end") line

-- the place, if the line there is a `.exdc`
abbrev pub if_exdc : List WordLine → Option ℕ → Option ℕ
if_exdc lines None = None
if_exdc lines (Some k) = if heads (codes ".exdc") (slice_index_or (words_of lines) k []) then Some k else None

-- the place of the first `.exdc`, unless an `.end` stands before it
abbrev pub exdc_place : List WordLine → Option ℕ
exdc_place lines = if_exdc lines (position (λ line. ends_model line.words) lines)

-- a `.exdc` stands before the end of the text
abbrev pub has_exdc : List ℕ → Bool
has_exdc text = is_some (exdc_place (word_lines Blif text))

-- ---- what the don't care part says

-- what the lines of a model declare
abbrev pub declared_by : List (List Word) → Declared
declared_by lines = record { inputs = inputs_of lines; outputs = outputs_of lines }

-- the gate without pins and rows: it is constant 0
abbrev pub constant_0 : Word → NamedGate
constant_0 name = gate_of (name ∷ []) []

-- the outputs that none of these gates drives
abbrev pub not_driven : List Word → List NamedGate → List Word
not_driven outputs gates = filter (λ w. not (is_among w (outs gates))) outputs

-- the gates of a part in the order of placing, and then a constant 0 for each output of the model that they don't drive
abbrev pub part_gates : Declared → List NamedGate → List NamedGate
part_gates model gates = placed model.inputs gates ++ map constant_0 (not_driven model.outputs gates)

-- the network of a part, with the name and the declared names of its model
abbrev pub part_net : Word → Declared → List (List Word) → Network
part_net name model said = net_of name model.inputs model.outputs (part_gates model (gates_of said))

-- the fault of a part's lines of which none has a fault
abbrev pub part_fault : Declared → List WordLine → Option (ℕ × BlifFault)
part_fault model lines =
    let gates = gates_of (words_of lines) in
    option_or (undefined_pin (model.inputs ++ outs gates) lines) (unplaced (outs (placed model.inputs gates)) lines)

-- ---- the whole text

-- a network that has no don't cares, where there is one
abbrev pub as_source : Result Network (ℕ × BlifFault) → Result NetSource (ℕ × BlifFault)
as_source (Ok net) = Ok (record { net = net; free = None })
as_source (Err fault) = Err fault

-- What the lines of a model and those of its don't care part say, in a text with so many physical lines. The first faulty line decides, then
-- what is wrong with the whole model, and then what is wrong with the whole part.
abbrev pub both_say : ℕ → List WordLine → List WordLine → Result NetSource (ℕ × BlifFault)
both_say last lines part =
    let said = words_of lines in
    let model = declared_by said in
    judged
    (option_or (option_or (first_fault (faults limits.Source None) [] lines) (first_fault (faults limits.Source (Some model)) [] part)) (option_or (model_fault last lines) (part_fault model part)))
    (record { net = model_net said; free = Some (part_net (model_of said) model (words_of part)) })

-- what lines say of which the one at this place, where there is one, begins the don't care part
abbrev pub parts_say : Option ℕ → ℕ → List WordLine → Result NetSource (ℕ × BlifFault)
parts_say None last lines = as_source (model_says limits.Source last lines)
parts_say (Some k) last lines = both_say last (take k lines) (drop (k + 1) lines)

unfoldable pub source_says : List ℕ → Result NetSource (ℕ × BlifFault)
source_says text = let lines = word_lines Blif text in parts_say (exdc_place lines) (last_line text) lines
