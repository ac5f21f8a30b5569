-- Settling a polarity: while some input's flip costs less, the first such input is flipped.
use Rattle.std.specs.Prelude.{ℕ, zero, suc, nat_lt, find, Option, Some, None}
use Rattle.std.specs.List.{range_with_len}
use Rattle.ae_base.specs.Cube.{Signs}
use Rattle.ae_base.specs.Source.{Source}
use Rattle.expansion.specs.Flipped.{flipped_polarity}
use Rattle.polarity.specs.Cost.{cost_of}

-- the first input whose flip costs less
abbrev pub first_cheaper : Source → Signs → Option ℕ
first_cheaper s p = find (λ j. nat_lt (cost_of s (flipped_polarity p j)) (cost_of s p)) (range_with_len 0 p.n)

-- the polarity with that input flipped, where there is one
abbrev pub with_flip : Signs → Option ℕ → Signs
with_flip p None = p
with_flip p (Some j) = flipped_polarity p j

-- A round flips the first input whose flip costs less, and keeps the polarity where there is none.
abbrev pub rounds : ℕ → Source → Signs → Signs
rounds zero s p = p
rounds (suc k) s p = rounds k s (with_flip p (first_cheaper s p))

-- The result of as many rounds as the polarity costs: each flip lowers the cost.
unfoldable pub settling : Source → Signs → Signs
settling s p = rounds (cost_of s p) s p
