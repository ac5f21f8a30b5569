-- For private contracts alone: how the network is built from lines without a fault.
-- Signals are numbered in file order first: the inputs, and then the gates by the places of their `.names`.
use Rattle.std.specs.Prelude.{◌≡◌, ℕ, suc, ◌+◌, ◌-◌, ◌<◌, ◌≤◌, ◌^◌, ◌==◌, nat_lt, Bool, true, ◌||◌, not, if◌then◌else◌, Option, Some, None, Result, List, [], ◌∷◌, ◌++◌, length, take, drop, map, filter, All, position, IfSome, unwrap_or, slice_index_or, codes}
use Rattle.std.specs.List.{concat, before_first}
use Rattle.ae_base.specs.Cube.{Product}
use Rattle.ae_base.specs.Digits.{cube_said}
use Rattle.ae_base.specs.Name.{is_name}
use Rattle.ae_base.specs.Twins.{is_among}
use Rattle.ae_base.specs.declared.limits.TheConstants.{PINS, GATES}
use Rattle.ae_lex.specs.First.{first_fault, judged}
use Rattle.ae_lex.specs.Heads.{Word, word, heads, is_row}
use Rattle.ae_lex.specs.Reads.{words_of}
use Rattle.ae_lex.specs.Words.{WordLine}
use Rattle.ae_net.specs.declared.net.Gate.{Gate}
use Rattle.ae_net.specs.Named.{NamedGate, place_of}
use Rattle.ae_net.specs.Network.{Network}
use Rattle.ae_net.specs.Valid.{IsDistinct}
use Rattle.blif_order.specs.Order.{order_of}
use Rattle.blif_read.specs.declared.draft.Draft.{Draft}
use Rattle.blif_read.specs.declared.fault.BlifFault.{BlifFault}
use Rattle.blif_read.specs.declared.fault.NetLimits.{NetLimits}
use Rattle.blif_read.specs.declared.seen.Seen.{Seen}
use Rattle.blif_read.specs.Says.{Declared, gate_of, gates_of, outs, placed, faults, some_unknown, undefined_pin, unplaced, model_fault, model_net}
use Rattle.blif_read.specs.Seen as spec
use Rattle.blif_read.specs.SourceSays.{declared_by, part_fault, part_net}
use Rattle.blif_read.specs.Words.{pin_names, row_end}

-- the names of the signals in file order, few enough to be counted
pub record AreSignals (known : List (List ℕ)) : Type 0 where
  pub named : All (λ w. is_name w ≡ true) known
  pub few : length known < 2 ^ 32

-- the signal of a name, where it has one
abbrev pub signal_in : List (List ℕ) → List ℕ → Option ℕ
signal_in known w = if is_among w known then Some (place_of w known) else None

-- the signals of names, where each has one
abbrev pub signals_in : List (List ℕ) → List (List ℕ) → Option (List ℕ)
signals_in known ws = if some_unknown known ws then None else Some (map (λ w. place_of w known) ws)

-- ---- drafts: for each `.names` the place of its line, and its pins

abbrev pub drafted : List Word → ℕ → List Word → List Draft
drafted known k line = if heads (codes ".names") line then record { line = k; pins = map (λ w. place_of w known) (pin_names (drop 1 line)) } ∷ [] else []

-- the drafts of lines of which the first has place k
abbrev pub drafts_of : List Word → ℕ → List WordLine → List Draft
drafts_of known k [] = []
drafts_of known k (line ∷ lines) = drafted known k line.words ++ drafts_of known (suc k) lines

-- ---- the rows at the front of lines

abbrev pub rows_of : List WordLine → List (List ℕ)
rows_of lines = map concat (before_first (λ l. not (is_row l)) (words_of lines))

abbrev pub row_chars : List Word → Option (List ℕ)
row_chars line = if is_row line then Some (concat line) else None

-- the cube of a row over k pins
abbrev pub row_cube : ℕ → List ℕ → Product
row_cube k r = cube_said (take k r)

-- the rows end with 1, or there is none
abbrev pub is_on : List (List ℕ) → Bool
is_on rows = length rows == 0 || row_end (word rows 0) == 49

-- the gate of the `.names` that stands first, and its number
abbrev pub front : List WordLine → NamedGate
front [] = gate_of [] []
front (line ∷ lines) = gate_of (drop 1 line.words) (rows_of lines)

abbrev pub front_number : List WordLine → ℕ
front_number [] = 0
front_number (line ∷ lines) = line.number

-- ---- placing

-- of signals, n of which are inputs, those of gates, as places of gates
abbrev pub gates_among : ℕ → List ℕ → List ℕ
gates_among n [] = []
gates_among n (s ∷ ss) = if nat_lt s n then gates_among n ss else (s - n) ∷ gates_among n ss

-- the place of gate g in the order of placing
abbrev pub rank_in : List ℕ → ℕ → Option ℕ
rank_in order g = position (λ h. h == g) order

-- the number of a signal in the network: inputs keep theirs, and gates have the place of their rank
abbrev pub renumbered : ℕ → List (Option ℕ) → ℕ → ℕ
renumbered n ranks s = if nat_lt s n then s else n + unwrap_or (slice_index_or ranks (s - n) None) 0

abbrev pub IsRankBelow : ℕ → Option ℕ → Type 0
IsRankBelow n r = IfSome r (λ k. k < n)

-- the gate of this name and these signals in file order, with these rows
abbrev pub built : List (List ℕ) → List ℕ → List ℕ → ℕ → List (Option ℕ) → Gate
built rows name signals n ranks =
    record { out = name; pins = map (renumbered n ranks) signals; rows = map (row_cube (length signals)) rows; on = is_on rows }

abbrev pub draft_at : List Draft → ℕ → Draft
draft_at drafts g = slice_index_or drafts g (record { line = 0; pins = [] })

-- the gate in place g of file order
abbrev pub built_at : List WordLine → List (List ℕ) → List Draft → ℕ → List (Option ℕ) → ℕ → Gate
built_at lines names drafts n ranks g =
    let draft = draft_at drafts g in
    built (rows_of (drop (draft.line + 1) lines)) (slice_index_or names g []) draft.pins n ranks

-- ---- ports

-- the signal of the gate that drives an output
abbrev pub port_of : Seen → List (Option ℕ) → List ℕ → ℕ
port_of seen ranks w = renumbered (length seen.inputs) ranks (length seen.inputs + place_of w seen.driven)

-- of outputs those that no gate drives: each gets a constant 0
abbrev pub idle : Seen → List (List ℕ) → List (List ℕ)
idle seen ws = filter (λ w. not (is_among w seen.driven)) ws

abbrev pub zero_gate : List ℕ → Gate
zero_gate name = record { out = name; pins = []; rows = []; on = true }

-- the signal that the port of an output shows, the constants being the gates after so many
abbrev pub shown_by : Seen → List (Option ℕ) → ℕ → List ℕ → ℕ
shown_by seen ranks count w = if is_among w seen.driven then port_of seen ranks w else length seen.inputs + count + place_of w (idle seen seen.outputs)

-- names and ranks of which the ports are made, after so many gates
pub record ArePorts (seen : Seen) (ranks : List (Option ℕ)) (count : ℕ) : Type 0 where
  pub size : length ranks ≡ length seen.driven
  pub short : length seen.inputs + length ranks < 2 ^ 32
  pub ranked : All (IsRankBelow (length ranks)) ranks
  pub apart : IsDistinct seen.outputs
  pub room : length seen.inputs + count + length seen.outputs < 2 ^ 32

-- the network of a model's name
abbrev pub drawn : List WordLine → Seen → List Draft → List ℕ → List (Option ℕ) → List ℕ → Network
drawn lines seen drafts order ranks model =
    record {
      model = model;
      inputs = seen.inputs;
      outputs = map (shown_by seen ranks (length order)) seen.outputs;
      gates = map (built_at lines seen.driven drafts (length seen.inputs) ranks) order ++ map zero_gate (idle seen seen.outputs);
    }

-- so many lines, drafts and ranks from which a network can be built
pub record AreBuildable (count : ℕ) (seen : Seen) (drafts : List Draft) (ranks : List (Option ℕ)) : Type 0 where
  pub lines : All (λ d. d.line < count) drafts
  pub few : All (λ d. length d.pins ≤ PINS) drafts
  pub known : All (λ d. All (λ s. s < length seen.inputs + length ranks) d.pins) drafts
  pub drafts_size : length drafts ≡ length seen.driven
  pub ranks_size : length ranks ≡ length seen.driven
  pub short : length seen.inputs + length ranks < 2 ^ 32
  pub ranked : All (IsRankBelow (length ranks)) ranks

-- the lines of a model without a fault declare this
pub record IsModel (limits : NetLimits) (model : Declared) : Type 0 where
  pub lines : List WordLine
  pub none : first_fault (faults limits None) [] lines ≡ None
  pub is : model ≡ declared_by (words_of lines)

-- if there is a model
abbrev pub IsOf : NetLimits → Option Declared → Type 0
IsOf limits None = Unit {0}
IsOf limits (Some model) = IsModel limits model

-- the lines, of a model or of the don't care part of this model, have no fault, and say this
pub record AreFaultless (model : Option Declared) (lines : List WordLine) (seen : Seen) : Type 0 where
  pub limits : NetLimits
  pub of : IsOf limits model
  pub none : first_fault (faults limits model) [] lines ≡ None
  pub seen_is : seen ≡ spec.seen model (words_of lines)

-- and these are the drafts, with no pin undefined, with inputs and outputs, and not too many gates and outputs that none drives
pub record AreDrafted (lines : List WordLine) (seen : Seen) (drafts : List Draft) : Type 0 where
  pub model : Option Declared
  pub faultless : AreFaultless model lines seen
  pub reads : undefined_pin (seen.inputs ++ seen.driven) lines ≡ None
  pub drafts_are : drafts ≡ drafts_of (seen.inputs ++ seen.driven) 0 lines
  pub some_input : 0 < length seen.inputs
  pub some_output : 0 < length seen.outputs
  pub few : length seen.driven + length (idle seen seen.outputs) ≤ GATES

-- lines of which these are the drafts
pub record AreDrafts (seen : Seen) (drafts : List Draft) : Type 0 where
  pub lines : List WordLine
  pub drafted : AreDrafted lines seen drafts

-- the lines of a don't care part whose model has inputs and outputs
pub record ArePart (lines : List WordLine) (seen : Seen) : Type 0 where
  pub model : Declared
  pub faultless : AreFaultless (Some model) lines seen
  pub some_input : 0 < length seen.inputs
  pub some_output : 0 < length seen.outputs

-- the order of placing, and for each gate its place there
pub record IsPlan (n : ℕ) (drafts : List Draft) (order : List ℕ) (ranks : List (Option ℕ)) : Type 0 where
  pub order_is : order ≡ order_of (map (λ d. gates_among n d.pins) drafts)
  pub size : length ranks ≡ length drafts
  pub rank : (g : ℕ) → slice_index_or ranks g None ≡ rank_in order g

-- the inputs and outputs
abbrev pub declared_in : Seen → Declared
declared_in seen = record { inputs = seen.inputs; outputs = seen.outputs }

-- the network under a name of placed gates and constants, or the line of the first gate that isn't placed
abbrev pub placed_net : List ℕ → List WordLine → Seen → Result Network (ℕ × BlifFault)
placed_net name lines seen = judged (unplaced (outs (placed seen.inputs (gates_of (words_of lines)))) lines) (part_net name (declared_in seen) (words_of lines))

-- what the lines of a model without a fault say, in a text with so many physical lines
abbrev pub lines_say : ℕ → List WordLine → Result Network (ℕ × BlifFault)
lines_say last lines = judged (model_fault last lines) (model_net (words_of lines))

-- what those of a don't care part say under a name
abbrev pub part_says : List ℕ → List WordLine → Seen → Result Network (ℕ × BlifFault)
part_says name lines seen = judged (part_fault (declared_in seen) lines) (part_net name (declared_in seen) (words_of lines))
