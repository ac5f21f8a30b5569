-- The forms of a network: a table with a row for each form.
use Rattle.std.specs.Prelude.{true, false, bytes_eq, find, ℕ, List, [], ◌∷◌, Option, codes}
use Rattle.ae_base.specs.declared.form.Features.{Features}
use Rattle.ae_base.specs.declared.form.Form.{Form}
use Rattle.ae_base.specs.declared.form.Form.TheVariants.{Reddy, Factored}
use Rattle.ae_base.specs.declared.limits.TheConstants.{FACTORED_CUBES, REDDY_TERMS}

-- whether the network has a control, and whether the vector file lists cubes and undetectable faults; the most terms of a source
abbrev pub features_of : Form → Features
features_of Reddy = record { control = true; cubes = false; undetectable = false; most_terms = REDDY_TERMS }
features_of Factored = record { control = false; cubes = true; undetectable = true; most_terms = FACTORED_CUBES }

-- its word in texts and on the command line
abbrev pub form_word : Form → List ℕ
form_word Reddy = codes "reddy"
form_word Factored = codes "factored"

abbrev pub forms : List Form
forms = Reddy ∷ Factored ∷ []

-- the form that a word names
abbrev pub form_of : List ℕ → Option Form
form_of word = find (λ form. bytes_eq word (form_word form)) forms
