-- Words of private contracts alone.
use Rattle.std.specs.Prelude.{◌≡◌, ◌≢◌, ◌==◌, ℕ, ◌+◌, ◌-◌, ◌<◌, ◌≤◌, Bool, ◌&&◌, if◌then◌else◌, ◌⊎◌, List, [], ◌∷◌, ◌++◌, slice_get, Some}
use Rattle.ae_base.specs.Mask.{Set, differ, first, both, xor}
use Rattle.ae_base.specs.Cube.{Signs}
use Rattle.ae_base.specs.Terms.{literal}
use Rattle.fn_store.specs.Davio.{high}
use Rattle.davio_dd.specs.declared.node.Node.{Node}
use Rattle.davio_dd.specs.Diagram.{entry, place_value, top, IsPlace}

-- the node at a place, which stands behind its parts and tests one of n inputs
pub record IsNode (n : ℕ) (nodes : List Node) (at : ℕ) (node : Node) : Type 0 where
  pub two : 2 ≤ at
  pub got : slice_get nodes (at - 2) ≡ Some node
  pub low_before : node.low < at
  pub high_before : node.high < at
  pub below : node.input < n

-- the list begins with the other
abbrev pub Grows : List Node → List Node → Type 0
Grows before after = (more : List Node) × (after ≡ before ++ more)

-- the nodes after one was added, where it was not there
abbrev pub IsAdded : List Node → Node → List Node → Type 0
IsAdded before node after = (after ≡ before) ⊎ (((k : ℕ) → slice_get before k ≢ Some node) × (after ≡ before ++ node ∷ []))

-- the place is its low part, EXOR the product of the input's literal and its high part; both parts test later inputs alone
pub record IsPart (p : Signs) (nodes : List Node) (at input low high : ℕ) : Type 0 where
  pub is : (x : Set) → place_value p nodes at x ≡ differ (place_value p nodes low x) (literal p input x && place_value p nodes high x)
  pub low_le : low ≤ at
  pub high_le : high ≤ at
  pub low_falls : input ≡ top p.n nodes at → low < at
  pub high_falls : 0 < at → high < at
  pub over_low : input < top p.n nodes low
  pub over_high : input < top p.n nodes high

-- two places by the first input that one of them tests
pub record IsSplit (p : Signs) (nodes : List Node) (a b input a_low a_high b_low b_high : ℕ) : Type 0 where
  pub left : IsPart p nodes a input a_low a_high
  pub right : IsPart p nodes b input b_low b_high
  pub below : input < p.n
  pub least : (j : ℕ) → j < top p.n nodes a → j < top p.n nodes b → j < input
  pub low_falls : a_low + b_low < a + b

-- a place that tests later inputs alone
pub record IsLater (n : ℕ) (nodes : List Node) (input at : ℕ) : Type 0 where
  pub place : IsPlace nodes at
  pub over : input < top n nodes at

-- the parts of two places by an input test later inputs alone
pub record AreParts (n : ℕ) (nodes : List Node) (input a_low a_high b_low b_high : ℕ) : Type 0 where
  pub below : input < n
  pub left_low : IsLater n nodes input a_low
  pub left_high : IsLater n nodes input a_high
  pub right_low : IsLater n nodes input b_low
  pub right_high : IsLater n nodes input b_high

-- the high part of an operation on two places: where the literal is 0 it is the operation on the low parts, where it is 1 that on the EXORs
-- of both parts, and the high part is the EXOR of the two
pub record IsHigh (op : Bool → Bool → Bool) (p : Signs) (nodes : List Node) (input a_low a_high b_low b_high high : ℕ) : Type 0 where
  pub later : IsLater p.n nodes input high
  pub is : (x : Set) → place_value p nodes high x ≡ differ (op (place_value p nodes a_low x) (place_value p nodes b_low x))
      (op (differ (place_value p nodes a_low x) (place_value p nodes a_high x)) (differ (place_value p nodes b_low x) (place_value p nodes b_high x)))

-- the point at which every literal is 0
unfoldable pub all_zero : Signs → Set
all_zero p = xor (first p.n) (both (first p.n) p.plain)

-- the point along one path: that of low where low is not the constant 0, else that of high with the input's literal at 1
unfoldable pub path_point : Signs → List Node → ℕ → Set
path_point p nodes at = entry (all_zero p) (all_zero p) (λ node of_low of_high. if node.low == 0 then high p node.input of_high else of_low) nodes at
