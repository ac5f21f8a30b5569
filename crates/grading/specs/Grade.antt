-- What a grading finds of a netlist and a vector file with the same names. A check is a grading that also looks at the lines of
-- undetectable faults.
use Rattle.std.specs.Prelude.{◌≡◌, ℕ, None, List, [], All, Contains, length, map}
use Rattle.ae_base.specs.Mask.{Set}
use Rattle.ae_net.specs.declared.net.Fault.{Fault}
use Rattle.ae_net.specs.Faults.{fault_list}
use Rattle.ae_net.specs.Network.{Network}
use Rattle.ae_net.specs.Run.{Shows}
use Rattle.ae_net.specs.Valid.{IsValid}
use Rattle.grading.specs.Pair.{IsPair}
use Rattle.grading.specs.declared.report.GradeReport.{GradeReport}
use Rattle.grading.specs.declared.report.Mode.{Mode}
use Rattle.grading.specs.declared.report.Mode.TheVariants.{Check, Grade}
use Rattle.named_faults.specs.Names.{named, place_name}
use Rattle.ae_base.specs.declared.step.Step.{Step}
use Rattle.redundancy.specs.Evidence.{WordHolds}
use Rattle.test_gen.specs.Selection.{IsSelection}
use Rattle.test_gen.specs.Undetectable.{IsComplete, IsDetected}
use Rattle.vec_text.specs.VectorFile.{VectorFile}
use Rattle.vec_text.specs.declared.file.Idle.{Idle}
use Rattle.vec_text.specs.declared.file.Shown.{Shown}
use Rattle.vec_text.specs.declared.file.Shown.TheVariants.{Tree}
use Rattle.vec_text.specs.declared.file.Vector.{Vector}

abbrev pub points_of : VectorFile → List Set
points_of file = map (λ v. v.point) file.vectors

-- ---- evidence

-- the lines of undetectable faults that are looked at
abbrev pub looked_at : Mode → VectorFile → List Idle
looked_at Grade file = []
looked_at Check file = file.unchanged

-- what is shown of the fault is a word that holds
pub record IsEvidence (n : Network) (fault : Fault) (shown : Shown) : Type 0 where
  pub word : List Step
  pub is_shown : shown ≡ Tree word
  pub holds : WordHolds n fault word

-- the line is of this fault, by the name of its site and its value, and shows a word that holds
pub record IsProofOf (n : Network) (fault : Fault) (line : Idle) : Type 0 where
  pub place : line.place ≡ place_name n fault.place
  pub value : line.value ≡ fault.value
  pub evidence : IsEvidence n fault line.shown

-- some line is
abbrev pub IsProved : Network → List Idle → Fault → Type 0
IsProved n lines fault = (line : Idle) × Contains lines line × IsProofOf n fault line

-- ---- the report

-- The vectors whose responses the network does not show; the faults that a vector detects, and those that are missed; of these the ones
-- that a line proves undetectable, and those that are left.
pub record IsReport (mode : Mode) (n : Network) (file : VectorFile) (report : GradeReport) : Type 0 where
  pub wrong : List Vector
  pub are_wrong : IsSelection (λ v. ¬ Shows n None v.point v.outs) file.vectors wrong
  pub detected : List Fault
  pub are_detected : IsSelection (IsDetected n (points_of file)) (fault_list n) detected
  pub missed : List Fault
  pub are_missed : IsSelection (λ fault. ¬ IsDetected n (points_of file) fault) (fault_list n) missed
  pub proved : List Fault
  pub are_proved : IsSelection (IsProved n (looked_at mode file)) missed proved
  pub left : List Fault
  pub are_left : IsSelection (λ fault. ¬ IsProved n (looked_at mode file) fault) missed left
  pub is : report ≡ record {
    vectors = length file.vectors;
    wrong = length wrong;
    faults = length (fault_list n);
    told = length detected;
    proved = length proved;
    left = map (named n) left;
  }

-- The bytes say a pair, and this is its report.
pub record IsGraded (mode : Mode) (net_bytes vec_bytes : List ℕ) (report : GradeReport) : Type 0 where
  pub net : Network
  pub file : VectorFile
  pub pair : IsPair net_bytes vec_bytes net file
  pub is : IsReport mode net file report

-- The bytes say a pair, and its network is valid; each response is what that network shows; each fault at a fault site is detected by a
-- vector or by no point at all.
pub record IsSound (net_bytes vec_bytes : List ℕ) : Type 0 where
  pub net : Network
  pub file : VectorFile
  pub pair : IsPair net_bytes vec_bytes net file
  pub valid : IsValid net
  pub responses : All (λ v. Shows net None v.point v.outs) file.vectors
  pub complete : IsComplete net (points_of file)
