-- For private contracts alone: what is true of what lines without a fault say.
use Rattle.std.specs.Prelude.{◌≡◌, ◌≢◌, ◌≤◌, ◌<◌, true, List, [], ◌++◌, length, All, AllPairs}
use Rattle.ae_base.specs.declared.limits.TheConstants.{WRITTEN_LINES}
use Rattle.ae_base.specs.Name.{is_name}
use Rattle.ae_base.specs.declared.form.Form.{Form}
use Rattle.ae_base.specs.Form.{features_of}
use Rattle.ae_lex.specs.Heads.{Word}
use Rattle.vec_text.specs.VectorFile.{VectorFile, IsValidVectorFile}
use Rattle.vec_text.specs.Seen.{Seen}

-- few enough names
pub record AreFew (file : VectorFile) : Type 0 where
  pub inputs : length file.inputs ≤ WRITTEN_LINES
  pub outputs : length file.outputs ≤ WRITTEN_LINES

-- one to WRITTEN_LINES names
pub record AreLabels (names : List Word) : Type 0 where
  pub named : All (λ name. is_name name ≡ true) names
  pub some : 1 ≤ length names
  pub few : length names ≤ WRITTEN_LINES

-- the names of the inputs, all different, with a control where the form has one
pub record AreInputs (form : Form) (inputs : List Word) : Type 0 where
  pub labels : AreLabels inputs
  pub control : (features_of form).control ≡ true → 2 ≤ length inputs
  pub distinct : AllPairs (λ name other. name ≢ other) inputs

-- no line of a cube, a vector or an undetectable fault was read
pub record IsFrontAlone (file : VectorFile) : Type 0 where
  pub no_esop : file.esop ≡ []
  pub no_vectors : file.vectors ≡ []
  pub no_unchanged : file.unchanged ≡ []

-- each line of which a file has one keeps its rules, as far as they stand
pub record IsSound (seen : Seen) : Type 0 where
  pub front : seen.stage < 5 → IsFrontAlone seen.file
  pub inputs : 3 ≤ seen.stage → AreInputs seen.file.form seen.file.inputs
  pub outputs : 4 ≤ seen.stage → AreLabels seen.file.outputs × AllPairs (λ name other. name ≢ other) (seen.file.inputs ++ seen.file.outputs)
  pub whole : 5 ≤ seen.stage → IsValidVectorFile seen.file
