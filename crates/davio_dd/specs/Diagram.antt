-- Davio diagrams (Sasao, "Switching Theory for Logic Synthesis"): what the places of a list of nodes mean, and which lists are diagrams.
-- The place 0 is the constant 0, the place 1 is the constant 1, and node k has the place k + 2.
use Rattle.std.specs.Prelude.{◌≡◌, ℕ, ◌+◌, ◌<◌, Bool, true, false, ◌&&◌, List, [], ◌∷◌, ◌++◌, map, length, nat_lt, slice_get, slice_index_or, Option, Some}
use Rattle.ae_base.specs.Mask.{Set, differ, empty, with}
use Rattle.ae_base.specs.Cube.{Signs}
use Rattle.ae_base.specs.Terms.{literal, in_order}
use Rattle.fn_store.specs.Functions.{Functions}
use Rattle.davio_dd.specs.declared.node.Node.{Node}
use Rattle.davio_dd.specs.declared.node.Question.{Question}

-- the entries of all places, after some nodes more: a node has what the rule makes of it and of the entries of its two parts
unfoldable pub entries_from : {A : Type 0} → A → (Node → A → A → A) → List A → List Node → List A
entries_from at_zero rule entries [] = entries
entries_from at_zero rule entries (node ∷ rest) =
    entries_from at_zero rule (entries ++ rule node (slice_index_or entries node.low at_zero) (slice_index_or entries node.high at_zero) ∷ []) rest

-- the entry of a place, where the constants have the two given ones
unfoldable pub entry : {A : Type 0} → A → A → (Node → A → A → A) → List Node → ℕ → A
entry at_zero at_one rule nodes at = slice_index_or (entries_from at_zero rule (at_zero ∷ at_one ∷ []) nodes) at at_zero

-- the value of a place at a point: that of low, EXOR the product of the input's literal and high
unfoldable pub place_value : Signs → List Node → ℕ → Set → Bool
place_value p nodes at x = entry false true (λ node low high. differ low (literal p node.input x && high)) nodes at

-- the terms along the paths from a place: those of low, and those of high with the input in each
unfoldable pub place_terms : List Node → ℕ → List Set
place_terms nodes at = entry [] (empty ∷ []) (λ node low high. low ++ map (λ t. with t node.input) high) nodes at

-- the input that a place tests; n where it tests none
unfoldable pub top : ℕ → List Node → ℕ → ℕ
top n nodes at = entry n n (λ node low high. node.input) nodes at

-- a place of the diagram
abbrev pub IsPlace : List Node → ℕ → Type 0
IsPlace nodes at = at < length nodes + 2

-- A list of nodes is a diagram over n inputs: each node stands behind its two parts, its high is not the constant 0, it tests one of the
-- inputs, and an earlier one than its parts do, and no node stands twice.
pub record IsDiagram (n : ℕ) (nodes : List Node) : Type 0 where
  pub low : (k : ℕ) (node : Node) → slice_get nodes k ≡ Some node → node.low < k + 2
  pub high : (k : ℕ) (node : Node) → slice_get nodes k ≡ Some node → node.high < k + 2
  pub some : (k : ℕ) (node : Node) → slice_get nodes k ≡ Some node → 0 < node.high
  pub below : (k : ℕ) (node : Node) → slice_get nodes k ≡ Some node → node.input < n
  pub before_low : (k : ℕ) (node : Node) → slice_get nodes k ≡ Some node → node.input < top n nodes node.low
  pub before_high : (k : ℕ) (node : Node) → slice_get nodes k ≡ Some node → node.input < top n nodes node.high
  pub once : (j k : ℕ) (node : Node) → slice_get nodes j ≡ Some node → slice_get nodes k ≡ Some node → j ≡ k

-- the diagram as a store: a reference is a place, and its expansion is the terms along its paths, in term order
abbrev pub functions_of : Signs → List Node → Functions
functions_of p nodes = record { polarity = p; live = λ at. nat_lt at (length nodes + 2); terms = λ at. in_order (place_terms nodes at) }

-- both are true
abbrev pub product : Bool → Bool → Bool
product a b = a && b

-- the answer is the operation of the two places, and tests no input before they do
pub record IsAnswer (op : Bool → Bool → Bool) (p : Signs) (nodes : List Node) (left right answer : ℕ) : Type 0 where
  pub left_place : IsPlace nodes left
  pub right_place : IsPlace nodes right
  pub place : IsPlace nodes answer
  pub is : (x : Set) → place_value p nodes answer x ≡ op (place_value p nodes left x) (place_value p nodes right x)
  pub over : (j : ℕ) → j < top p.n nodes left → j < top p.n nodes right → j < top p.n nodes answer

-- each remembered result is right
abbrev pub AllRight : (Bool → Bool → Bool) → Signs → List Node → (Question → Option ℕ) → Type 0
AllRight op p nodes known = (q : Question) (answer : ℕ) → known q ≡ Some answer → IsAnswer op p nodes q.left q.right answer
