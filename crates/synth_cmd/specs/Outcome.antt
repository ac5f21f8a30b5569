-- How far a command comes, what then stands, and how it ends: what the files hold, what the report took, and the counts of faults.
use Rattle.std.specs.Prelude.{◌≡◌, ◌⊎◌, ◌++◌, ℕ, List, [], ◌∷◌, Option, take, Contains}
use Rattle.std.specs.List.{zip}
use Rattle.ae_outside.specs.Counts.{Tally, Rose, RoseAt}
use Rattle.ae_outside.specs.Files.{Shelf, written, added, IsWrittenInPart, TookFront}
use Rattle.demo_source.specs.Demo.{demo_text}
use Rattle.grading.specs.Grade.{IsGraded}
use Rattle.grading.specs.Pair.{HasOtherNames}
use Rattle.grading.specs.declared.report.GradeReport.{GradeReport}
use Rattle.grading.specs.declared.report.Mode.{Mode}
use Rattle.polarity.specs.Search.{Advised}
use Rattle.synth_core.specs.Asked.{HasOtherCount, HasTooMany}
use Rattle.synth_core.specs.Made.{IsMade, Texts}
use Rattle.synth_core.specs.declared.settings.Settings.{Settings}
use Rattle.synth_cmd.specs.Asked.{Asked, Origin}
use Rattle.synth_cmd.specs.Asked.Asked.{Refused, Synth, Grade}
use Rattle.synth_cmd.specs.Asked.Origin.{File, Demo}
use Rattle.synth_cmd.specs.Lines.{finding_status, grade_lines, line_of, memory_line, report_lines, status_of, write_fault_line}
use Rattle.synth_cmd.specs.Outside.{Outside, World}
use Rattle.synth_cmd.specs.Reading.{ComesTo, HoldTexts, IsFaulty, IsLong, names_read, names_written, reads_of}
use Rattle.synth_cmd.specs.declared.stop.Refusal.{Refusal}
use Rattle.synth_cmd.specs.declared.stop.Refusal.TheVariants.{Words, ReadFault, TooLong, Text, NamesDiffer, BitCount, TooManyTerms}
use Rattle.synth_cmd.specs.declared.TheConstants.{DONE, WRITE_FAULT, MEMORY}

-- ---- the report

-- It took a front of the text, and all of it where its count of faults did not rise.
pub record Told (text : List ℕ) (old new : Option (List ℕ)) (before now : ℕ) : Type 0 where
  pub front : TookFront text old new
  pub whole : ¬ (Rose before now) → new ≡ added old text

-- It took a front of the text, and then a front of the line for want of memory.
pub record TellsMemory (text : List ℕ) (old new : Option (List ℕ)) : Type 0 where
  pub first : ℕ
  pub last : ℕ
  pub took : new ≡ added old (take first text ++ take last memory_line)

-- ---- the files

-- each name in turn holds its text, and all others stay
abbrev pub all_written : Option Shelf → List (List ℕ × List ℕ) → Option Shelf
all_written held [] = held
all_written held (file ∷ files) = all_written (written held file.0 file.1) files

-- The writing of texts stopped at a name: those before it hold their texts, and it is as before or holds a front of its own. All else is
-- as before.
pub record StopsAt (name : List ℕ) (files : List (List ℕ × List ℕ)) (old new : Option Shelf) : Type 0 where
  pub before : List (List ℕ × List ℕ)
  pub text : List ℕ
  pub after : List (List ℕ × List ℕ)
  pub order : files ≡ before ++ (name, text) ∷ after
  pub in_part : IsWrittenInPart (all_written old before) name text new

-- ---- what is made of the texts that are read

-- what a command makes: the texts that it writes, the bytes of its report, and the status where all is written
pub record Product : Type 0 where
  pub texts : List (List ℕ)
  pub lines : List ℕ
  pub status : ℕ

abbrev pub synthesis_of : Texts → Product
synthesis_of made = record { texts = made.net_text ∷ made.vec_text ∷ []; lines = report_lines made.summary; status = DONE }

-- the status is that of a shortfall exactly where some response is wrong or some fault is left
abbrev pub grading_of : Mode → GradeReport → Product
grading_of mode report = record { texts = []; lines = grade_lines mode report; status = finding_status report.wrong report.left }

-- the bytes of a source: those of its file, or those of the demo of a number
abbrev pub source_bytes : Settings → Origin → (texts : List (List ℕ)) → List ℕ
source_bytes settings (Demo number) texts = demo_text number settings.form
source_bytes settings (File name) [] = []
source_bytes settings (File name) (bytes ∷ texts) = bytes

-- this is made of the texts, by what the advisors were before and are after
abbrev pub Makes : Asked → (before after : List Advised) → (texts : List (List ℕ)) → Product → Type 0
Makes (Synth settings source net vectors) before after texts product =
    (made : Texts) × IsMade settings (source_bytes settings source texts) before after made × (product ≡ synthesis_of made)
Makes (Grade mode net vectors) before after (net_bytes ∷ vec_bytes ∷ []) product = (report : GradeReport) × IsGraded mode net_bytes vec_bytes report × (product ≡ grading_of mode report)
Makes asked before after texts product = ⊥

-- The texts that are read held what this is made of.
pub record IsMadeOf (asked : Asked) (old new : World) (product : Product) : Type 0 where
  pub texts : List (List ℕ)
  pub hold : HoldTexts old.held (names_read asked) texts
  pub makes : Makes asked old.advisors new.advisors texts product

-- the texts are refused for this cause
abbrev pub Objects : Asked → (texts : List (List ℕ)) → Refusal → Type 0
Objects asked texts (Text name line what) = IsFaulty (reads_of asked) texts name.now line what
Objects Refused texts Words = Unit {0}
Objects (Synth settings source net vectors) texts (BitCount given wanted) = HasOtherCount settings (source_bytes settings source texts) given wanted
Objects (Synth settings (File name) net vectors) texts (TooManyTerms output) = HasTooMany settings (source_bytes settings (File name) texts) output
Objects (Grade mode net vectors) (net_bytes ∷ vec_bytes ∷ []) (NamesDiffer name) = (name.now ≡ vectors) × HasOtherNames net_bytes vec_bytes
Objects asked texts refusal = ⊥

-- a file is not read, by what was held and by the counts of reads before and now: a read of it failed, or it is too long
abbrev pub Unread : Option Shelf → (before now : Tally) → (names : List (List ℕ)) → Refusal → Type 0
Unread held before now names (ReadFault name) = ComesTo held names name.now × RoseAt name.now before now
Unread held before now names (TooLong name) = ComesTo held names name.now × IsLong held name.now
Unread held before now names refusal = ⊥

-- A refusal has a cause, and the files and the advisors are as before.
pub record IsRefused (asked : Asked) (old new : World) (refusal : Refusal) : Type 0 where
  pub cause : Unread old.held old.reads new.reads (names_read asked) refusal ⊎ ((texts : List (List ℕ)) × HoldTexts old.held (names_read asked) texts × Objects asked texts refusal)
  pub held : new.held ≡ old.held
  pub advisors : new.advisors ≡ old.advisors

-- ---- how far a command comes

-- it is refused; a write of a name failed; or all is written
pub data Stage : Type 0 where
  Refuses : Refusal → Stage
  Fails : (name : List ℕ) → Product → Stage
  Finishes : Product → Stage

-- what stands at a stage; where all is written, no read and no write failed
abbrev pub Stands : Asked → (old new : World) → Stage → Type 0
Stands asked old new (Refuses refusal) = IsRefused asked old new refusal
Stands asked old new (Fails name product) =
    Contains (names_written asked) name × RoseAt name old.writes new.writes × IsMadeOf asked old new product × StopsAt name (zip (names_written asked) product.texts) old.held new.held
Stands asked old new (Finishes product) =
    IsMadeOf asked old new product × (new.held ≡ all_written old.held (zip (names_written asked) product.texts)) × (new.reads ≡ old.reads) × (new.writes ≡ old.writes)

-- what is told at a stage
abbrev pub text_at : Stage → List ℕ
text_at (Refuses refusal) = line_of refusal
text_at (Fails name product) = write_fault_line name
text_at (Finishes product) = product.lines

-- the status at a stage; the report of what is made is itself written whole, or a write of it failed
abbrev pub Answers : Stage → (old new : Outside) → (status : ℕ) → Type 0
Answers (Refuses refusal) old new status = (status ≡ status_of refusal) × Told (line_of refusal) old.taken new.taken old.faults new.faults
Answers (Fails name product) old new status = (status ≡ WRITE_FAULT) × Told (write_fault_line name) old.taken new.taken old.faults new.faults
Answers (Finishes product) old new status =
    ((status ≡ product.status) × (new.taken ≡ added old.taken product.lines) × (new.faults ≡ old.faults))
    ⊎ ((status ≡ WRITE_FAULT) × Rose old.faults new.faults × TookFront product.lines old.taken new.taken)

-- A command ends with the status of a stage; or memory is wanting, before anything is told, or where a stage is told.
pub data Ending (asked : Asked) (old new : Outside) (status : ℕ) : Type 0 where
  at_stage : (stage : Stage) → Stands asked old.world new.world stage → Answers stage old new status → Ending asked old new status
  untouched : status ≡ MEMORY → new.world.held ≡ old.world.held → TookFront memory_line old.taken new.taken → Ending asked old new status
  in_part : (name : List ℕ) (product : Product) → status ≡ MEMORY → IsMadeOf asked old.world new.world product
      → StopsAt name (zip (names_written asked) product.texts) old.world.held new.world.held → TookFront memory_line old.taken new.taken → Ending asked old new status
  half_told : (stage : Stage) → status ≡ MEMORY → Stands asked old.world new.world stage → TellsMemory (text_at stage) old.taken new.taken → Ending asked old new status
