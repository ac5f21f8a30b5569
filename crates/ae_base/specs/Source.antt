-- A source as contracts see it: its names, and what it specifies. Readers say which source a text is.
use Rattle.std.specs.Prelude.{◌≢◌, ℕ, ◌<◌, Bool, true, false, List, length}
use Rattle.ae_base.specs.Mask.{Set, with, without}
use Rattle.ae_base.specs.Terms.{IsPoint}

-- what is specified for an output at a point; a free point may have either value
pub data Specified : Type 0 where
  On : Specified
  Off : Specified
  Free : Specified

-- the name of the model, the names of the inputs and of the outputs in file order, and what is specified for output o at point x
pub record Source : Type 0 where
  pub model : List ℕ
  pub inputs : List (List ℕ)
  pub outputs : List (List ℕ)
  pub specified : ℕ → Set → Specified

abbrev pub is_on : Specified → Bool
is_on On = true
is_on Off = false
is_on Free = false

-- the truth function that is 1 exactly where the output is specified On
abbrev pub on_set : Source → ℕ → Set → Bool
on_set s o x = is_on (s.specified o x)

-- The input is used: two points that differ in it alone have different values at some output.
pub record IsUsed (s : Source) (j : ℕ) : Type 0 where
  pub is_input : j < length s.inputs
  pub output : ℕ
  pub is_output : output < length s.outputs
  pub point : Set
  pub is_point : IsPoint (length s.inputs) point
  pub differ : on_set s output (with point j) ≢ on_set s output (without point j)
