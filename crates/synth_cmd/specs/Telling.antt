-- How a step of a call ends. For private contracts alone.
use Rattle.std.specs.Prelude.{◌≡◌, ◌≢◌, ◌⊎◌, ◌≤◌, ⊤, ℕ, List, [], ◌∷◌, Option, Result, Ok, Err, Vec, Contains}
use Rattle.std.specs.List.{zip}
use Rattle.std.specs.declared.alloc.Global.{Global}
use Rattle.ae_outside.specs.Counts.{Rose, RoseAt, Tally}
use Rattle.ae_outside.specs.Files.{Shelf, added, TookFront}
use Rattle.synth_core.specs.declared.settings.Settings.{Settings}
use Rattle.synth_cmd.specs.Asked.{Asked, Origin}
use Rattle.synth_cmd.specs.Ends.{KeepsAdvisors, WasText}
use Rattle.synth_cmd.specs.Lines.{line_of, memory_line, status_of, write_fault_line}
use Rattle.synth_cmd.specs.Outcome.{Ending, IsMadeOf, IsRefused, Product, Stands, StopsAt, Told, TellsMemory, Unread, all_written}
use Rattle.synth_cmd.specs.Outcome.Stage.{Fails, Finishes, Refuses}
use Rattle.synth_cmd.specs.Outside.{CountsAmong, Outside, World}
use Rattle.synth_cmd.specs.Reading.{HoldTexts, names_read, names_written}
use Rattle.synth_cmd.specs.declared.stop.Stop.{Stop}
use Rattle.synth_cmd.specs.declared.stop.Stop.TheVariants as stop
use Rattle.synth_cmd.specs.declared.stop.Unmade.{Unmade}
use Rattle.synth_cmd.specs.declared.stop.Unmade.TheVariants as unmade
use Rattle.synth_cmd.specs.declared.TheConstants.{WRITE_FAULT, MEMORY}

-- ---- the report

-- A line is told and the status answered, or that of memory.
abbrev pub Tells : (line : List ℕ) (status : ℕ) → (old new : Option (List ℕ)) → (before now answer : ℕ) → Type 0
Tells line status old new before now answer = ((answer ≡ status) × Told line old new before now) ⊎ ((answer ≡ MEMORY) × TellsMemory line old new)

-- The lines of the report are written whole and the status answered, or a write of them failed, or memory is wanting.
abbrev pub Reports : (lines : List ℕ) (status : ℕ) → (old new : Option (List ℕ)) → (before now answer : ℕ) → Type 0
Reports lines status old new before now answer =
    ((answer ≡ status) × (new ≡ added old lines) × (now ≡ before))
    ⊎ (((answer ≡ WRITE_FAULT) × Rose before now × TookFront lines old new) ⊎ ((answer ≡ MEMORY) × TellsMemory lines old new))

-- what is told where a command stops
abbrev pub TellsStop : Stop → (old new : Option (List ℕ)) → (before now answer : ℕ) → Type 0
TellsStop (stop.Refused refusal) old new before now answer = Tells (line_of refusal) (status_of refusal) old new before now answer
TellsStop (stop.WriteFault file) old new before now answer = Tells (write_fault_line file.now) WRITE_FAULT old new before now answer
TellsStop stop.Memory old new before now answer = (answer ≡ MEMORY) × TookFront memory_line old new

-- ---- the files

-- the files of these names are read, and their texts answered; or one is not
abbrev pub ReadsTexts : {T : Type 0} → (T → List (List ℕ)) → Option Shelf → (before now : Tally) → (names : List (List ℕ)) → Result T Unmade → Type 0
ReadsTexts texts held before now names (Ok t) = HoldTexts held names (texts t)
ReadsTexts texts held before now names (Err (unmade.Refused refusal)) = Unread held before now names refusal
ReadsTexts texts held before now names (Err unmade.Memory) = ⊤

-- the bytes of a source are answered; or a file that is read for it is not
abbrev pub GivesSource : Settings → Origin → (names : List (List ℕ)) → Option Shelf → (before now : Tally) → Result (Vec ℕ Global) Unmade → Type 0
GivesSource settings source names held before now (Ok bytes) = WasText settings held source bytes.items
GivesSource settings source names held before now (Err (unmade.Refused refusal)) = Unread held before now names refusal
GivesSource settings source names held before now (Err unmade.Memory) = ⊤

-- texts are written to these names, or the writing stopped
abbrev pub WritesTexts : (names texts : List (List ℕ)) → (before now : Tally) → (old new : Option Shelf) → Result ⊤ Stop → Type 0
WritesTexts names texts before now old new (Ok _) = new ≡ all_written old (zip names texts)
WritesTexts names texts before now old new (Err (stop.Refused refusal)) = ⊥
WritesTexts names texts before now old new (Err (stop.WriteFault file)) = Contains names file.now × RoseAt file.now before now × StopsAt file.now (zip names texts) old new
WritesTexts names texts before now old new (Err stop.Memory) = (name : List ℕ) × StopsAt name (zip names texts) old new

-- ---- the command

-- something is made of the texts that a command reads, or they are refused
abbrev pub Gives : {T : Type 0} → (T → Product) → Asked → (old new : World) → Result T Unmade → Type 0
Gives product asked old new (Ok t) = IsMadeOf asked old new (product t)
Gives product asked old new (Err (unmade.Refused refusal)) = IsRefused asked old new refusal
Gives product asked old new (Err unmade.Memory) = ⊤

-- what is made is written too, or the command stops before
abbrev pub Comes : {T : Type 0} → (T → Product) → Asked → (old new : World) → Result T Stop → Type 0
Comes product asked old new (Ok t) = Stands asked old new (Finishes (product t))
Comes product asked old new (Err (stop.Refused refusal)) = Stands asked old new (Refuses refusal)
Comes product asked old new (Err (stop.WriteFault file)) = (made : Product) × Stands asked old new (Fails file.now made)
Comes product asked old new (Err stop.Memory) =
    (new.held ≡ old.held) ⊎ ((name : List ℕ) × (made : Product) × IsMadeOf asked old new made × StopsAt name (zip (names_written asked) made.texts) old.held new.held)

-- and no other count rises
pub record Works {T : Type 0} (product : T → Product) (asked : Asked) (old new : World) (result : Result T Stop) : Type 0 where
  pub comes : Comes product asked old new result
  pub reads : CountsAmong (names_read asked) old.reads new.reads
  pub writes : CountsAmong (names_written asked) old.writes new.writes
  pub advisors : KeepsAdvisors asked old.held old.advisors new.advisors

-- how a command ends, without what follows from it by laws
pub record Closes (asked : Asked) (old new : Outside) (status : ℕ) : Type 0 where
  pub ending : Ending asked old new status
  pub reads : CountsAmong (names_read asked) old.world.reads new.world.reads
  pub writes : CountsAmong (names_written asked) old.world.writes new.world.writes
  pub faults : old.faults ≤ new.faults
  pub advisors : KeepsAdvisors asked old.world.held old.world.advisors new.world.advisors
