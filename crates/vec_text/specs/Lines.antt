-- For private contracts alone: the lines of a file, in the parts that are written one after the other.
use Rattle.std.specs.Prelude.{ℕ, List, [], ◌∷◌, ◌++◌, length, map, codes}
use Rattle.ae_base.specs.declared.form.Form.{Form}
use Rattle.vec_text.specs.VectorFile.{VectorFile, form_line, polarity_line, esop_line, vector_line, unchanged_line}

-- the head, and the line of the form
abbrev pub title_lines : Form → List (List (List ℕ))
title_lines form = (codes "andexor-vectors" ∷ codes "1" ∷ []) ∷ form_line form ∷ []

abbrev pub list_lines : List (List ℕ) → List (List ℕ) → List (List (List ℕ))
list_lines inputs outputs = (codes "inputs" ∷ inputs) ∷ (codes "outputs" ∷ outputs) ∷ []

-- the lines that each file has one of, before all others
abbrev pub head_lines : VectorFile → List (List (List ℕ))
head_lines file = title_lines file.form ++ (list_lines file.inputs file.outputs ++ (polarity_line file.polarity ∷ []))

abbrev pub esop_lines : VectorFile → List (List (List ℕ))
esop_lines file = map (esop_line (length file.inputs)) file.esop

abbrev pub vector_lines : VectorFile → List (List (List ℕ))
vector_lines file = map (vector_line (length file.inputs) (length file.outputs)) file.vectors

abbrev pub unchanged_lines : VectorFile → List (List (List ℕ))
unchanged_lines file = map unchanged_line file.unchanged

-- the lines after those
abbrev pub body_lines : VectorFile → List (List (List ℕ))
body_lines file = esop_lines file ++ (vector_lines file ++ (unchanged_lines file ++ ((codes "end" ∷ []) ∷ [])))
