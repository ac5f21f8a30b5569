-- Undetectable faults as a vector file lists them: by the names of a network, each with its evidence tree.
use Rattle.std.specs.Prelude.{◌≡◌, ◌<◌, ◌≤◌, List}
use Rattle.std.specs.List.{AllZip}
use Rattle.ae_net.specs.declared.net.Fault.{Fault}
use Rattle.ae_net.specs.Faults.{fault_list}
use Rattle.ae_net.specs.Network.{Network}
use Rattle.named_faults.specs.Names.{place_name}
use Rattle.redundancy.specs.declared.TheConstants.{LEAVES}
use Rattle.redundancy.specs.Evidence.{IsEvidenceTree, Tree, leaf_count, written}
use Rattle.test_gen.specs.Selection.{IsSelection}
use Rattle.test_gen.specs.Undetectable.{IsUndetectable}
use Rattle.vec_text.specs.declared.file.Idle.{Idle}
use Rattle.vec_text.specs.declared.file.Shown.{Shown}
use Rattle.vec_text.specs.declared.file.Shown.TheVariants as shown

-- the evidence tree of the fault, or `wide` where it has more leaves than are written
abbrev pub IsShown : Network → Fault → Shown → Type 0
IsShown n fault (shown.Tree steps) = (tree : Tree) × IsEvidenceTree n fault tree × (steps ≡ written tree) × (leaf_count tree ≤ LEAVES)
IsShown n fault shown.Wide = (tree : Tree) × IsEvidenceTree n fault tree × (LEAVES < leaf_count tree)

-- a fault as a line of the file tells it
pub record IsLineOf (n : Network) (fault : Fault) (idle : Idle) : Type 0 where
  pub place : idle.place ≡ place_name n fault.place
  pub value : idle.value ≡ fault.value
  pub is_shown : IsShown n fault idle.shown

-- exactly the undetectable faults, in fault order
pub record AreUndetectable (n : Network) (lines : List Idle) : Type 0 where
  pub faults : List Fault
  pub exactly : IsSelection (IsUndetectable n) (fault_list n) faults
  pub listed : AllZip (IsLineOf n) faults lines
