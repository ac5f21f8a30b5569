-- Vector files and their text.
use Rattle.std.specs.Prelude.{◌≡◌, ◌≢◌, ℕ, suc, ◌+◌, ◌==◌, ◌<◌, ◌≤◌, Bool, true, false, not, ◌&&◌, nat_le, if◌then◌else◌, List, [], ◌∷◌, ◌++◌, length, map, All, AllPairs, codes}
use Rattle.std.specs.Fmt.{decimal}
use Rattle.ae_base.specs.declared.limits.TheConstants.{PINS, WRITTEN_LINES}
use Rattle.ae_base.specs.Cube.{Signs, IsSigns, IsOver}
use Rattle.ae_base.specs.Form.{features_of, form_word}
use Rattle.ae_base.specs.Name.{is_name}
use Rattle.ae_base.specs.Terms.{IsPoint}
use Rattle.ae_base.specs.Text.{bits_of, cube_text, text_of}
use Rattle.ae_base.specs.declared.form.Form.{Form}
use Rattle.vec_text.specs.declared.file.Vector.{Vector}
use Rattle.vec_text.specs.declared.file.EsopLine.{EsopLine}
use Rattle.vec_text.specs.declared.file.PlaceName.{PlaceName}
use Rattle.vec_text.specs.declared.file.PlaceName.TheVariants.{Stem, Pin, Port}
use Rattle.ae_base.specs.declared.step.Step.{Step}
use Rattle.ae_base.specs.declared.step.Step.TheVariants.{S, L}
use Rattle.vec_text.specs.declared.file.Shown.{Shown}
use Rattle.vec_text.specs.declared.file.Shown.TheVariants.{Tree, Wide}
use Rattle.vec_text.specs.declared.file.Idle.{Idle}

-- the form, the names of the network's inputs and outputs, the polarity of the source's inputs, the cubes of the ESOP, the vectors, and
-- the undetectable faults
pub record VectorFile : Type 0 where
  pub form : Form
  pub inputs : List (List ℕ)
  pub outputs : List (List ℕ)
  pub polarity : Signs
  pub esop : List EsopLine
  pub vectors : List Vector
  pub unchanged : List Idle

-- the number of a network's inputs over n inputs of a source: the control, where there is one, is one more
abbrev pub inputs_over : Form → ℕ → ℕ
inputs_over form n = if (features_of form).control then suc n else n

-- ---- valid files

-- a cube over n inputs, of one of m outputs
pub record IsCubeOf (n m : ℕ) (e : EsopLine) : Type 0 where
  pub output : e.output < m
  pub cube : IsOver n e.cube

-- names, and a pin's number from 1 to the most pins of a gate
abbrev pub is_place : PlaceName → Bool
is_place (Stem name) = is_name name
is_place (Pin gate k) = is_name gate && nat_le 1 k && nat_le k PINS
is_place (Port name) = is_name name

-- a tree has a letter
abbrev pub is_shown : Shown → Bool
is_shown (Tree steps) = not (length steps == 0)
is_shown Wide = true

pub record IsIdle (idle : Idle) : Type 0 where
  pub place : is_place idle.place ≡ true
  pub shown : is_shown idle.shown ≡ true

-- The rules of the vector text: one to WRITTEN_LINES names of inputs and of outputs, all different, a polarity of the inputs of the
-- source, of which there is one or more, vectors over the inputs with responses over the outputs, and cubes of the outputs and
-- undetectable faults in those forms alone that list them.
pub record IsValidVectorFile (file : VectorFile) : Type 0 where
  pub some_input : 0 < file.polarity.n
  pub signs : IsSigns file.polarity
  pub polarity : length file.inputs ≡ inputs_over file.form file.polarity.n
  pub few_inputs : length file.inputs ≤ WRITTEN_LINES
  pub some_output : 0 < length file.outputs
  pub few_outputs : length file.outputs ≤ WRITTEN_LINES
  pub named : All (λ name. is_name name ≡ true) (file.inputs ++ file.outputs)
  pub distinct : AllPairs (λ a b. a ≢ b) (file.inputs ++ file.outputs)
  pub esop : All (IsCubeOf (length file.inputs) (length file.outputs)) file.esop
  pub points : All (λ v. IsPoint (length file.inputs) v.point) file.vectors
  pub responses : All (λ v. IsPoint (length file.outputs) v.outs) file.vectors
  pub unchanged : All IsIdle file.unchanged
  pub no_cubes : (features_of file.form).cubes ≡ false → file.esop ≡ []
  pub none_listed : (features_of file.form).undetectable ≡ false → file.unchanged ≡ []

-- ---- the lines of a file, as words

-- the line of the form
abbrev pub form_line : Form → List (List ℕ)
form_line form = codes "form" ∷ form_word form ∷ []

-- a digit for each input of the source: 1 where its literal is plain
abbrev pub polarity_line : Signs → List (List ℕ)
polarity_line p = codes "polarity" ∷ bits_of p.n p.plain ∷ []

-- a cube over n inputs, with the number of its output from 1 on
abbrev pub esop_line : ℕ → EsopLine → List (List ℕ)
esop_line n e = codes "esop" ∷ decimal (e.output + 1) ∷ cube_text n e.cube ∷ []

-- a vector over n inputs, and its response over m outputs
abbrev pub vector_line : ℕ → ℕ → Vector → List (List ℕ)
vector_line n m v = codes "vector" ∷ bits_of n v.point ∷ bits_of m v.outs ∷ []

abbrev pub place_words : PlaceName → List (List ℕ)
place_words (Stem name) = codes "stem" ∷ name ∷ []
place_words (Pin gate k) = codes "pin" ∷ gate ∷ decimal k ∷ []
place_words (Port name) = codes "port" ∷ name ∷ []

abbrev pub value_word : Bool → List ℕ
value_word v = if v then codes "1" else codes "0"

abbrev pub letter : Step → ℕ
letter S = 83
letter L = 76

abbrev pub shown_word : Shown → List ℕ
shown_word (Tree steps) = map letter steps
shown_word Wide = codes "wide"

-- an undetectable fault: its place, its stuck value, and its evidence tree
abbrev pub unchanged_line : Idle → List (List ℕ)
unchanged_line idle = codes "unchanged" ∷ place_words idle.place ++ (value_word idle.value ∷ shown_word idle.shown ∷ [])

-- the text of a vector file
unfoldable pub vector_text : VectorFile → List ℕ
vector_text file =
    let n = length file.inputs in
    let m = length file.outputs in
    let front = (codes "andexor-vectors" ∷ codes "1" ∷ []) ∷ form_line file.form ∷ (codes "inputs" ∷ file.inputs) ∷ (codes "outputs" ∷ file.outputs) ∷ polarity_line file.polarity ∷ [] in
    text_of (front ++ (map (esop_line n) file.esop ++ (map (vector_line n m) file.vectors ++ (map unchanged_line file.unchanged ++ ((codes "end" ∷ []) ∷ [])))))
