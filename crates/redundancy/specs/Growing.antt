-- How the search for a tree goes on. For private contracts alone.
use Rattle.std.specs.Prelude.{◌≡◌, ℕ, zero, suc, ◌+◌, ◌==◌, if◌then◌else◌, Option, Some, None, List, [], ◌∷◌, ◌++◌, length, IfNone}
use Rattle.ae_net.specs.declared.net.Fault.{Fault}
use Rattle.ae_net.specs.Network.{Network}
use Rattle.redundancy.specs.declared.TheConstants.{LEAVES}
use Rattle.redundancy.specs.declared.lines.Subcube.{Subcube}
use Rattle.redundancy.specs.declared.trees.Growth.{Growth}
use Rattle.redundancy.specs.declared.trees.Found.{Found}
use Rattle.redundancy.specs.declared.trees.Found.TheVariants.{TooWide, Differs}
use Rattle.ae_base.specs.declared.step.Step.{Step}
use Rattle.ae_base.specs.declared.step.Step.TheVariants.{S, L}
use Rattle.redundancy.specs.Evidence.{Tree, leaf, split, written}
use Rattle.redundancy.specs.Leaf.{low, high}
use Rattle.redundancy.specs.Visits.{Visit, holds, detects, visits}
use Rattle.redundancy.specs.Worked.{leaf_holds}

-- what ends the search, where so many leaves were met before
abbrev pub first_stop : ℕ → List Visit → Option Found
first_stop leaves [] = None
first_stop leaves (holds ∷ vs) = if leaves == LEAVES then Some TooWide else first_stop (suc leaves) vs
first_stop leaves (detects x ∷ vs) = Some (Differs x)

-- the tree that is gone through, m inputs being unknown
unfoldable pub tree_of : Network → Fault → ℕ → Subcube → Tree
tree_of n fault zero d = leaf
tree_of n fault (suc m) d = if leaf_holds n fault d then leaf else split (tree_of n fault m (low d)) (tree_of n fault m (high d))

-- a letter more
abbrev pub AddsStep : Step → Growth → Growth → Type 0
AddsStep step old new = new.word.items ≡ old.word.items ++ step ∷ []

-- a leaf more, unless there is no room for it
pub record AddsLeaf (old new : Growth) (stop : Option Found) : Type 0 where
  pub stop_is : stop ≡ first_stop old.leaves (holds ∷ [])
  pub word : IfNone stop (AddsStep L old new)
  pub leaves : IfNone stop (new.leaves ≡ old.leaves + 1)

-- a split more
pub record AddsSplit (old new : Growth) : Type 0 where
  pub word : AddsStep S old new
  pub leaves : new.leaves ≡ old.leaves

-- the word has grown by the tree of the subcube, and its leaves are counted
pub record HasGrown (n : Network) (fault : Fault) (m : ℕ) (d : Subcube) (old new : Growth) : Type 0 where
  pub word : new.word.items ≡ old.word.items ++ written (tree_of n fault m d)
  pub leaves : new.leaves ≡ old.leaves + length (visits n fault m d)

-- the search has ended in the subcube, or has gone through it
pub record Grows (n : Network) (fault : Fault) (m : ℕ) (d : Subcube) (old new : Growth) (stop : Option Found) : Type 0 where
  pub stop_is : stop ≡ first_stop old.leaves (visits n fault m d)
  pub grown : IfNone stop (HasGrown n fault m d old new)
