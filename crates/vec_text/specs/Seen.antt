-- For private contracts alone: what the reader keeps of the lines so far, and what one more line adds to it.
use Rattle.std.specs.Prelude.{◌≡◌, ℕ, ◌==◌, Bool, not, ◌||◌, bytes_eq, if◌then◌else◌, List, [], ◌∷◌, ◌++◌, length, take, drop, codes, None, Some, Result, Ok, Err}
use Rattle.ae_base.specs.declared.limits.TheConstants.{PINS}
use Rattle.ae_base.specs.Digits as decimal
use Rattle.ae_base.specs.Name.{is_name}
use Rattle.ae_base.specs.Twins.{is_among}
use Rattle.ae_lex.specs.First.{first_of}
use Rattle.ae_lex.specs.Heads.{Word, heads}
use Rattle.ae_lex.specs.declared.errors.LineErr.{LineErr}
use Rattle.ae_lex.specs.declared.errors.LineErr.TheVariants as line
use Rattle.vec_text.specs.declared.fault.VecFault.{VecFault}
use Rattle.vec_text.specs.declared.fault.VecFault.TheVariants.{BadPlace, BadNumber, BadEvidence}
use Rattle.vec_text.specs.declared.file.Idle.{Idle}
use Rattle.vec_text.specs.declared.file.PlaceName.TheVariants.{Stem, Pin, Port}
use Rattle.vec_text.specs.VectorFile.{VectorFile}
use Rattle.vec_text.specs.Words.{form_said, polarity_said, vector_said, esop_said, idle_said, is_placed, is_numbered, is_count, tree_at, is_tree, shown_said}
use Rattle.vec_text.specs.Says.{file_of, line_faults}

-- the number of lines, counted up to the five of which each file has one, and the file that the lines say
pub record Seen : Type 0 where
  pub stage : ℕ
  pub file : VectorFile

abbrev pub stage_of : List (List Word) → ℕ
stage_of lines = length (take 5 lines)

unfoldable pub seen : List (List Word) → Seen
seen lines = record { stage = stage_of lines; file = file_of lines }

abbrev pub faults_in : Seen → List Word → List (Bool × VecFault)
faults_in seen line = line_faults seen.stage seen.file line

-- with one more line that has no fault
unfoldable pub with_line : Seen → List Word → Seen
with_line seen line =
    let file = seen.file in
    let words = drop 1 line in
    if seen.stage == 0 then record seen { stage = 1 }
    else if heads (codes "form") line then record { stage = 2; file = record file { form = form_said words } }
    else if heads (codes "inputs") line then record { stage = 3; file = record file { inputs = words } }
    else if heads (codes "outputs") line then record { stage = 4; file = record file { outputs = words } }
    else if heads (codes "polarity") line then record { stage = 5; file = record file { polarity = polarity_said words } }
    else if heads (codes "esop") line then record seen { file = record file { esop = file.esop ++ esop_said words ∷ [] } }
    else if heads (codes "vector") line then record seen { file = record file { vectors = file.vectors ++ vector_said words ∷ [] } }
    else if heads (codes "unchanged") line then record seen { file = record file { unchanged = file.unchanged ++ idle_said words ∷ [] } }
    else seen

-- the faults of the words after `unchanged`
abbrev pub idle_faults : List Word → List (Bool × VecFault)
idle_faults words = (not (is_placed words), BadPlace) ∷ (not (is_numbered words), BadNumber) ∷ (not (is_tree (tree_at words)), BadEvidence) ∷ []

-- those of a kind, a name, a value and a tree, as they are tried, and what these words say
abbrev pub named_faults : Word → Word → Word → Word → List (Bool × VecFault)
named_faults kind name value tree =
    (not (is_among value (codes "0" ∷ codes "1" ∷ [])), BadPlace) ∷ (not (is_name name), BadPlace)
    ∷ (not (bytes_eq kind (codes "stem") || bytes_eq kind (codes "port")), BadPlace) ∷ (not (is_tree tree), BadEvidence) ∷ []

abbrev pub named_said : Word → Word → Word → Word → Idle
named_said kind name value tree = record { place = if bytes_eq kind (codes "stem") then Stem name else Port name; value = bytes_eq value (codes "1"); shown = shown_said tree }

-- the same of a pin's gate, its number, a value and a tree
abbrev pub pin_faults : Word → Word → Word → Word → List (Bool × VecFault)
pin_faults gate number value tree =
    (not (is_among value (codes "0" ∷ codes "1" ∷ [])), BadPlace) ∷ (not (is_name gate), BadPlace) ∷ (not (is_count PINS number), BadNumber)
    ∷ (not (is_tree tree), BadEvidence) ∷ []

abbrev pub pin_said : Word → Word → Word → Word → Idle
pin_said gate number value tree = record { place = Pin gate (decimal.value number); value = bytes_eq value (codes "1"); shown = shown_said tree }

-- words are read whose faults are these, or their first fault is answered
abbrev pub Finds : {X : Type 0} → List (Bool × VecFault) → X → Result X (LineErr VecFault) → Type 0
Finds faults said (Ok found) = (first_of faults ≡ None) × (found ≡ said)
Finds faults said (Err (line.Fault fault)) = first_of faults ≡ Some fault
Finds faults said (Err line.Memory) = Unit {0}
