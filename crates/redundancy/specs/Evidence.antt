-- Evidence trees and their words. A tree splits on the inputs in order; the format is this project's own.
use Rattle.std.specs.Prelude.{◌≡◌, ℕ, suc, ◌+◌, ◌<◌, List, [], ◌∷◌, ◌++◌, length}
use Rattle.ae_net.specs.declared.net.Fault.{Fault}
use Rattle.ae_net.specs.Network.{Network}
use Rattle.redundancy.specs.declared.lines.Subcube.{Subcube}
use Rattle.ae_base.specs.declared.step.Step.{Step}
use Rattle.ae_base.specs.declared.step.Step.TheVariants.{S, L}
use Rattle.redundancy.specs.Leaf.{whole, low, high, LeafHolds}

-- a leaf, or a split on the next input into the tree for its value 0 and the tree for its value 1
pub data Tree : Type 0 where
  leaf : Tree
  split : Tree → Tree → Tree

-- `L` for a leaf; `S` for a split, then its two trees
abbrev pub written : Tree → List Step
written leaf = L ∷ []
written (split a b) = S ∷ (written a ++ written b)

abbrev pub leaf_count : Tree → ℕ
leaf_count leaf = 1
leaf_count (split a b) = leaf_count a + leaf_count b

-- no split stands where all n inputs are known, d of them at the root
abbrev pub IsTree : ℕ → ℕ → Tree → Type 0
IsTree n d leaf = Unit {0}
IsTree n d (split a b) = (d < n) × IsTree n (suc d) a × IsTree n (suc d) b

-- the word is that of a tree; of one alone, by the law of evidence
pub record IsWholeTree (n : Network) (word : List Step) : Type 0 where
  pub tree : Tree
  pub is_written : word ≡ written tree
  pub is_tree : IsTree (length n.inputs) 0 tree

-- each leaf of the tree holds
abbrev pub EachLeafHolds : Network → Fault → Subcube → Tree → Type 0
EachLeafHolds n fault d leaf = LeafHolds n fault d
EachLeafHolds n fault d (split a b) = EachLeafHolds n fault (low d) a × EachLeafHolds n fault (high d) b

-- the word is a whole tree, and each of its leaves holds
pub record WordHolds (n : Network) (fault : Fault) (word : List Step) : Type 0 where
  pub whole_tree : IsWholeTree n word
  pub leaves : EachLeafHolds n fault whole whole_tree.tree

-- each leaf of the tree holds, and no subcube that is split would hold as a leaf
abbrev pub SplitsOnNeed : Network → Fault → Subcube → Tree → Type 0
SplitsOnNeed n fault d leaf = LeafHolds n fault d
SplitsOnNeed n fault d (split a b) = (¬ LeafHolds n fault d) × SplitsOnNeed n fault (low d) a × SplitsOnNeed n fault (high d) b

-- the tree of a fault: a leaf wherever it holds
pub record IsEvidenceTree (n : Network) (fault : Fault) (tree : Tree) : Type 0 where
  pub is_tree : IsTree (length n.inputs) 0 tree
  pub on_need : SplitsOnNeed n fault whole tree
