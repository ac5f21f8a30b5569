-- What is found for a fault: its tree, or what ends the search for it.
use Rattle.std.specs.Prelude.{◌≡◌, ℕ, zero, suc, ◌<◌, ◌≤◌, if◌then◌else◌, Some, List, [], ◌∷◌, ◌++◌, length, slice_get}
use Rattle.ae_base.specs.Mask.{Set}
use Rattle.ae_base.specs.Terms.{IsPoint}
use Rattle.ae_net.specs.declared.net.Fault.{Fault}
use Rattle.ae_net.specs.Detects.{Detects}
use Rattle.ae_net.specs.Network.{Network}
use Rattle.redundancy.specs.declared.TheConstants.{LEAVES}
use Rattle.redundancy.specs.declared.lines.Subcube.{Subcube}
use Rattle.redundancy.specs.declared.trees.Found.{Found}
use Rattle.redundancy.specs.declared.trees.Found.TheVariants.{Tree as found_tree, TooWide, Differs}
use Rattle.redundancy.specs.Evidence.{Tree, written, leaf_count, IsEvidenceTree, WordHolds}
use Rattle.redundancy.specs.Leaf.{whole, low, high}
use Rattle.redundancy.specs.Undetectable.{IsUndetectable}
use Rattle.redundancy.specs.Worked.{leaf_holds}

-- what ends a branch: a leaf that holds, or a point that detects the fault
pub data Visit : Type 0 where
  holds : Visit
  detects : Set → Visit

-- What is met in the order of the tree, m inputs being unknown: a leaf wherever it holds; where it does not, both halves, and where no input
-- is unknown, a point that detects the fault.
unfoldable pub visits : Network → Fault → ℕ → Subcube → List Visit
visits n fault zero d = if leaf_holds n fault d then holds ∷ [] else detects d.point ∷ []
visits n fault (suc m) d = if leaf_holds n fault d then holds ∷ [] else visits n fault m (low d) ++ visits n fault m (high d)

-- what is met in the whole tree of the fault
abbrev pub met : Network → Fault → List Visit
met n fault = visits n fault (length n.inputs) whole

-- the first k visits are leaves that hold
abbrev pub BeginsWithLeaves : ℕ → List Visit → Type 0
BeginsWithLeaves k vs = (j : ℕ) → j < k → slice_get vs j ≡ Some holds

-- The tree of the fault, of at most `LEAVES` leaves; or one leaf more is met before any point that detects the fault; or the first such
-- point is met before.
abbrev pub IsFound : Network → Fault → Found → Type 0
IsFound n fault (found_tree word) = (tree : Tree) × IsEvidenceTree n fault tree × (word.items ≡ written tree) × (leaf_count tree ≤ LEAVES)
IsFound n fault TooWide = BeginsWithLeaves (suc LEAVES) (met n fault)
IsFound n fault (Differs x) = (k : ℕ) × (k ≤ LEAVES) × BeginsWithLeaves k (met n fault) × (slice_get (met n fault) k ≡ Some (detects x))

-- two findings are the same
abbrev pub AreSame : Found → Found → Type 0
AreSame (found_tree v) (found_tree w) = v.items ≡ w.items
AreSame TooWide TooWide = Unit {0}
AreSame (Differs x) (Differs y) = x ≡ y
AreSame _ _ = ⊥

-- what a finding tells of the fault
abbrev pub Tells : Network → Fault → Found → Type 0
Tells n fault (found_tree word) = WordHolds n fault word.items × IsUndetectable n fault
Tells n fault TooWide = Unit {0}
Tells n fault (Differs x) = IsPoint (length n.inputs) x × Detects n fault x
