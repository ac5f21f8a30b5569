-- For private contracts alone: rows by the state that they begin at.
use Rattle.std.specs.Prelude.{ℕ, List, [], ◌∷◌}
use Rattle.polarity.specs.Draws.{after_draws}
use Rattle.demo_source.specs.Demo.{characters, input_char, output_char}

-- the row of n inputs and m outputs that is drawn from a state on
abbrev pub row_from : ℕ → ℕ → ℕ → List (List ℕ)
row_from n m x = characters input_char x 0 n ∷ characters output_char (after_draws n x) 0 m ∷ []
