-- The text of the demo: a cover whose characters a generator of numbers draws, the same for the same seed.
use Rattle.std.specs.Prelude.{ℕ, suc, ◌+◌, ◌*◌, ◌%◌, ◌^◌, ◌==◌, if◌then◌else◌, List, [], ◌∷◌, ◌++◌, map, codes}
use Rattle.std.specs.List.{range_with_len}
use Rattle.std.specs.Fmt.{decimal}
use Rattle.ae_base.specs.Form.{features_of}
use Rattle.ae_base.specs.Text.{text_of}
use Rattle.polarity.specs.Draws.{after_draws, drawn}
use Rattle.ae_base.specs.declared.form.Form.{Form}

-- ---- sizes

abbrev pub demo_inputs : Form → ℕ
demo_inputs form = if (features_of form).cubes then 7 else 9

abbrev pub demo_outputs : ℕ
demo_outputs = 8

abbrev pub demo_rows : Form → ℕ
demo_rows form = if (features_of form).cubes then 24 else 64

-- ---- characters

-- what draw k from a state on gives, counted from 0
abbrev pub draw : ℕ → ℕ → ℕ
draw x k = drawn (after_draws (suc k) x)

-- the character of an input for a draw
abbrev pub input_char : ℕ → ℕ
input_char d = if d == 0 then 48 else if d == 1 then 49 else 45

-- the character of an output for a draw
abbrev pub output_char : ℕ → ℕ
output_char d = if d == 0 then 49 else 48

-- a character for each of n draws from draw k on
abbrev pub characters : (ℕ → ℕ) → ℕ → ℕ → ℕ → List ℕ
characters char x k n = map (λ j. char (draw x j)) (range_with_len k n)

-- ---- the text

-- row r takes a draw for each of n inputs and then one for each of m outputs, after those of the rows before it
abbrev pub demo_row : ℕ → ℕ → ℕ → ℕ → List (List ℕ)
demo_row n m x r = let k = r * (n + m) in characters input_char x k n ∷ characters output_char x (k + n) m ∷ []

abbrev pub demo_lines : ℕ → Form → List (List (List ℕ))
demo_lines seed form =
    let rows = map (demo_row (demo_inputs form) demo_outputs (seed % 2 ^ 31)) (range_with_len 0 (demo_rows form)) in
    ((codes ".i" ∷ decimal (demo_inputs form) ∷ []) ∷ (codes ".o" ∷ decimal demo_outputs ∷ []) ∷ rows) ++ (codes ".e" ∷ []) ∷ []

unfoldable pub demo_text : (seed : ℕ) → Form → List ℕ
demo_text seed form = text_of (demo_lines seed form)
