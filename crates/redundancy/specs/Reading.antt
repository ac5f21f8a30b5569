-- What reading a word letter by letter finds. For private contracts alone.
use Rattle.std.specs.Prelude.{◌≡◌, ℕ, ◌≤◌, List, ◌++◌, length, drop}
use Rattle.ae_net.specs.declared.net.Fault.{Fault}
use Rattle.ae_net.specs.Network.{Network}
use Rattle.redundancy.specs.declared.lines.Subcube.{Subcube}
use Rattle.ae_base.specs.declared.step.Step.{Step}
use Rattle.redundancy.specs.Evidence.{Tree, written, IsTree, EachLeafHolds}

-- a tree of the subcube, each of whose leaves holds
pub record Stands (n : Network) (fault : Fault) (d : Subcube) (tree : Tree) : Type 0 where
  pub is_tree : IsTree (length n.inputs) d.depth tree
  pub leaves : EachLeafHolds n fault d tree

-- such a tree is written from one place of the word to another
pub record ReadsTo (n : Network) (fault : Fault) (d : Subcube) (word : List Step) (at end : ℕ) : Type 0 where
  pub tree : Tree
  pub stands : Stands n fault d tree
  pub reads : drop at word ≡ written tree ++ drop end word
  pub within : end ≤ length word

-- no such tree is written from the place on
abbrev pub HasNoTree : Network → Fault → Subcube → List Step → ℕ → Type 0
HasNoTree n fault d word at = (tree : Tree) (rest : List Step) → drop at word ≡ written tree ++ rest → Stands n fault d tree → ⊥
