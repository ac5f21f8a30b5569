-- The cost of a polarity, and settled polarities.
use Rattle.std.specs.Prelude.{ℕ, ◌<◌, ◌≤◌, ◌^◌, length, count_by}
use Rattle.std.specs.List.{sum_by, range_with_len}
use Rattle.ae_base.specs.Cube.{Signs}
use Rattle.ae_base.specs.Source.{Source, on_set}
use Rattle.fn_store.specs.Davio.{coefficient}
use Rattle.expansion.specs.Flipped.{flipped_polarity}

-- The number of terms of the source's expansions: for each output, of the sets of inputs (written as the numbers below 2 to the n) those
-- whose coefficient is 1.
unfoldable pub cost_of : Source → Signs → ℕ
cost_of s p = sum_by (λ o. count_by (coefficient p (on_set s o)) (range_with_len 0 (2 ^ p.n))) (range_with_len 0 (length s.outputs))

-- no polarity that differs in one input alone costs less
abbrev pub IsLocallyCheapest : Source → Signs → Type 0
IsLocallyCheapest s p = (j : ℕ) → j < p.n → cost_of s p ≤ cost_of s (flipped_polarity p j)
