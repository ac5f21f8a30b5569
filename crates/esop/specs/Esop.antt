-- Exclusive sums of products (ESOPs) as contracts see them: lists of cubes, which mean their EXOR (Sasao, "Switching Theory for Logic
-- Synthesis").
use Rattle.std.specs.Prelude.{◌≡◌, ◌==◌, ◌%◌, ℕ, Bool, List, count_by, map}
use Rattle.ae_base.specs.Cube.{Product, Signs, holds}
use Rattle.ae_base.specs.Mask.{Set, both, xor}
use Rattle.ae_base.specs.Terms.{value}
use Rattle.expansion.specs.Terms.{Terms}
use Rattle.esop.specs.Order.{in_order}

-- for each output in order its cubes, over n inputs
pub record Cubes : Type 0 where
  pub n : ℕ
  pub outs : List (List Product)

-- the value of a list of cubes at a point: 1 exactly where an odd number of them holds there
unfoldable pub esop_value : List Product → Set → Bool
esop_value cs x = count_by (λ c. holds c x) cs % 2 == 1

-- the cubes mean what the terms mean
abbrev pub HasValueOf : Signs → List Set → List Product → Type 0
HasValueOf p ts cs = (x : Set) → esop_value cs x ≡ value p ts x

-- the cube of a term: the literals of its inputs, each as the polarity has it
abbrev pub cube_of : Signs → Set → Product
cube_of p t = record { pos = both t p.plain; neg = xor t (both t p.plain) }

-- one cube for each term
abbrev pub esop_of : Terms → Cubes
esop_of e = record { n = e.polarity.n; outs = map (λ ts. in_order (map (cube_of e.polarity) ts)) e.outs }
