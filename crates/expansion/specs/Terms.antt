-- Expansions of the outputs at one polarity, as contracts see them (Sasao, "Switching Theory for Logic Synthesis").
use Rattle.std.specs.Prelude.{ℕ, suc, ◌<◌, ◌≤◌, Bool, List, length, take}
use Rattle.std.specs.List.{list_any, sum_by}
use Rattle.ae_base.specs.Mask.{Set, has, where_below}
use Rattle.ae_base.specs.Cube.{Signs}

-- for each output in order the terms whose products have the output as their EXOR, the literals being those of the polarity
pub record Terms : Type 0 where
  pub polarity : Signs
  pub outs : List (List Set)

-- the number of terms of all outputs
abbrev pub cost : Terms → ℕ
cost e = sum_by length e.outs

-- The running sum of the lengths passes the limit at this list, and at none before it.
pub record PassesAt (limit : ℕ) (lists : List (List Set)) (place : ℕ) : Type 0 where
  pub is_place : place < length lists
  pub before : sum_by length (take place lists) ≤ limit
  pub past : limit < sum_by length (take (suc place) lists)

-- some term of some output holds the input
abbrev pub is_used : Terms → ℕ → Bool
is_used e j = list_any (λ ts. list_any (λ t. has t j) ts) e.outs

-- the inputs that some term of some output holds
unfoldable pub used_inputs : Terms → Set
used_inputs e = where_below e.polarity.n (is_used e)
