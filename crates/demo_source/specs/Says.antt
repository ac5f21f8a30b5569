-- What the text of the demo says, and how many terms its expansions have.
use Rattle.std.specs.Prelude.{◌≡◌, ℕ, ◌*◌, ◌^◌, Ok, length}
use Rattle.ae_cover.specs.Cover.{Table}
use Rattle.pla_read.specs.Pla.{pla_says}
use Rattle.ae_base.specs.declared.form.Form.{Form}
use Rattle.demo_source.specs.Demo.{demo_inputs, demo_outputs, demo_text}

-- The text says a cover of as many inputs and outputs as the form has.
pub record SaysCover (seed : ℕ) (form : Form) : Type 0 where
  pub table : Table
  pub says : pla_says (demo_text seed form) ≡ Ok table
  pub inputs : length table.inputs ≡ demo_inputs form
  pub outputs : length table.outputs ≡ demo_outputs

-- the most terms that so many functions of so many inputs have: 4,096 in Reddy form and 1,024 in factored form
abbrev pub most_terms : Form → ℕ
most_terms form = demo_outputs * 2 ^ demo_inputs form
