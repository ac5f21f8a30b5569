-- The text of a network (Berkeley Logic Interchange Format).
use Rattle.std.specs.Prelude.{ℕ, zero, suc, Bool, List, [], ◌∷◌, ◌++◌, length, map, slice_index_or, codes}
use Rattle.std.specs.List.{flat_map}
use Rattle.ae_base.specs.Cube.{Product}
use Rattle.ae_base.specs.Text.{text_of, digit, cube_text}
use Rattle.ae_net.specs.declared.net.Gate.{Gate}
use Rattle.ae_net.specs.Network.{Network}

-- the names of the signals in order
abbrev pub signal_names : Network → List (List ℕ)
signal_names n = n.inputs ++ map (λ gate. gate.out) n.gates

abbrev pub name_of : List (List ℕ) → ℕ → List ℕ
name_of names s = slice_index_or names s []

-- the words of a row over k pins
abbrev pub row_words : ℕ → Bool → Product → List (List ℕ)
row_words zero on row = (digit on ∷ []) ∷ []
row_words (suc k) on row = cube_text (suc k) row ∷ (digit on ∷ []) ∷ []

-- `.names`, the pins' names and the gate's, and then a line for each row
abbrev pub gate_lines : List (List ℕ) → Gate → List (List (List ℕ))
gate_lines names gate = (codes ".names" ∷ map (name_of names) gate.pins ++ gate.out ∷ []) ∷ map (row_words (length gate.pins) gate.on) gate.rows

-- `.model`, `.inputs` and `.outputs`, each with its names
abbrev pub head_lines : Network → List (List (List ℕ))
head_lines n = (codes ".model" ∷ n.model ∷ []) ∷ (codes ".inputs" ∷ n.inputs) ∷ (codes ".outputs" ∷ map (name_of (signal_names n)) n.outputs) ∷ []

abbrev pub net_lines : Network → List (List (List ℕ))
net_lines n = head_lines n ++ (flat_map (gate_lines (signal_names n)) n.gates ++ ((codes ".end" ∷ []) ∷ []))

unfoldable pub blif_text : Network → List ℕ
blif_text n = text_of (net_lines n)
