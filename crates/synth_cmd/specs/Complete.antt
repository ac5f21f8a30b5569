-- Which status comes, by what the files were: each cause has its answer, unless memory is wanting.
use Rattle.std.specs.Prelude.{◌≡◌, ◌⊎◌, ℕ, List, [], ◌∷◌, Some, None, Contains}
use Rattle.std.specs.FinMap.{get}
use Rattle.ae_outside.specs.Counts.{Rose, RoseAt}
use Rattle.ae_outside.specs.Files.{Shelf}
use Rattle.grading.specs.Grade.{IsGraded}
use Rattle.grading.specs.declared.report.GradeReport.{GradeReport}
use Rattle.synth_core.specs.Asked.{IsWithin}
use Rattle.synth_cmd.specs.Asked.{Asked}
use Rattle.synth_cmd.specs.Asked.Asked.{Refused, Synth, Grade}
use Rattle.synth_cmd.specs.Lines.{finding_status, status_of}
use Rattle.synth_cmd.specs.Outcome.{Objects, source_bytes}
use Rattle.synth_cmd.specs.Outside.{Outside}
use Rattle.synth_cmd.specs.Reading.{ComesTo, HoldOnly, IsLong, names_read, names_written}
use Rattle.synth_cmd.specs.declared.stop.Refusal.{Refusal}
use Rattle.synth_cmd.specs.declared.TheConstants.{DONE, READ_FAULT, TOO_LONG, MEMORY}

abbrev pub OrMemory : (wanted status : ℕ) → Type 0
OrMemory wanted status = (status ≡ wanted) ⊎ (status ≡ MEMORY)

-- no count of reads of these names rose
abbrev pub NoRead : List (List ℕ) → (old new : Outside) → Type 0
NoRead reads old new = (name : List ℕ) → Contains reads name → ¬ (RoseAt name old.world.reads new.world.reads)

-- nor one of writes, nor that of the report
pub record NoFault (reads writes : List (List ℕ)) (old new : Outside) : Type 0 where
  pub no_read : NoRead reads old new
  pub no_write : (name : List ℕ) → Contains writes name → ¬ (RoseAt name old.world.writes new.world.writes)
  pub no_report : ¬ (Rose old.faults new.faults)

-- the texts are good for the command, which is done with this status
abbrev pub Accepts : Asked → (texts : List (List ℕ)) → (status : ℕ) → Type 0
Accepts (Synth settings source net vectors) texts status = IsWithin settings (source_bytes settings source texts) × (status ≡ DONE)
Accepts (Grade mode net vectors) (net_bytes ∷ vec_bytes ∷ []) status = (report : GradeReport) × IsGraded mode net_bytes vec_bytes report × (status ≡ finding_status report.wrong report.left)
Accepts asked texts status = ⊥

pub record IsComplete (asked : Asked) (old new : Outside) (status : ℕ) : Type 0 where
  -- A name that is known not to be held is a read fault, where the reading comes to it.
  pub not_held : (m : Shelf) (name : List ℕ) → old.world.held ≡ Some m → ComesTo old.world.held (names_read asked) name → get m name ≡ None → OrMemory READ_FAULT status
  -- Where no read failed, a file that is too long, and texts for which there is a cause, are refused as such.
  pub too_long : (m : Shelf) (name : List ℕ) → old.world.held ≡ Some m → Contains (names_read asked) name → IsLong old.world.held name → NoRead (names_read asked) old new → OrMemory TOO_LONG status
  pub refused : (texts : List (List ℕ)) (refusal : Refusal) → HoldOnly old.world.held (names_read asked) texts → Objects asked texts refusal → NoRead (names_read asked) old new → OrMemory (status_of refusal) status
  -- All others are done where no count rose.
  pub complete : (texts : List (List ℕ)) (wanted : ℕ) → HoldOnly old.world.held (names_read asked) texts → Accepts asked texts wanted → NoFault (names_read asked) (names_written asked) old new → OrMemory wanted status
