-- The names of a source, and inner names.
use Rattle.std.specs.Prelude.{◌≡◌, ℕ, suc, ◌<◌, ◌≤◌, ◌==◌, Bool, true, false, if◌then◌else◌, List, [], ◌∷◌, ◌++◌, length, All, replicate}
use Rattle.std.specs.List.{list_any}
use Rattle.ae_base.specs.declared.limits.TheConstants.{SOURCE_LINES, SOURCE_NAME_BYTES}
use Rattle.ae_base.specs.Name.{is_name}
use Rattle.ae_net.specs.Valid.{IsDistinct}

-- the name of the model, and the names of the inputs and of the outputs in order
pub record Names : Type 0 where
  pub model : List ℕ
  pub inputs : List (List ℕ)
  pub outputs : List (List ℕ)

-- The names of a source: few enough, each short enough, and no name twice.
pub record IsNames (names : Names) : Type 0 where
  pub model_named : is_name names.model ≡ true
  pub some_input : 0 < length names.inputs
  pub few_inputs : length names.inputs ≤ SOURCE_LINES
  pub some_output : 0 < length names.outputs
  pub few_outputs : length names.outputs ≤ SOURCE_LINES
  pub distinct : IsDistinct (names.inputs ++ names.outputs)
  pub each : All (λ name. (is_name name ≡ true) × (length name ≤ SOURCE_NAME_BYTES)) (names.inputs ++ names.outputs)

-- the number of underscores that a name begins with
abbrev pub underscores : List ℕ → ℕ
underscores [] = 0
underscores (b ∷ bs) = if b == 95 then suc (underscores bs) else 0

-- some name begins with exactly k underscores
abbrev pub is_taken : List (List ℕ) → ℕ → Bool
is_taken names k = list_any (λ name. underscores name == k) names

-- k is the least number from 1 on such that no input or output name begins with exactly k underscores
pub record IsLead (names : Names) (k : ℕ) : Type 0 where
  pub positive : 0 < k
  pub free : is_taken (names.inputs ++ names.outputs) k ≡ false
  pub least : (m : ℕ) → 0 < m → m < k → is_taken (names.inputs ++ names.outputs) m ≡ true

-- an inner name: k underscores, and then this text
unfoldable pub inner : ℕ → List ℕ → List ℕ
inner k text = replicate k 95 ++ text
