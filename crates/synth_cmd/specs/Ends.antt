-- How a command ends.
use Rattle.std.specs.Prelude.{◌≡◌, ◌⊎◌, ◌≤◌, ℕ, List, Option}
use Rattle.ae_outside.specs.Files.{Shelf}
use Rattle.demo_source.specs.Demo.{demo_text}
use Rattle.polarity.specs.Search.{Advised}
use Rattle.synth_core.specs.Searched.{AdvisorsStand}
use Rattle.synth_core.specs.declared.settings.Settings.{Settings}
use Rattle.synth_cmd.specs.Asked.{Asked, Origin}
use Rattle.synth_cmd.specs.Asked.Asked.{Refused, Synth, Grade}
use Rattle.synth_cmd.specs.Asked.Origin.{File, Demo}
use Rattle.synth_cmd.specs.Complete.{IsComplete}
use Rattle.synth_cmd.specs.Outcome.{Ending}
use Rattle.synth_cmd.specs.Outside.{CountsAmong, Outside}
use Rattle.synth_cmd.specs.Reading.{HoldsText, names_read, names_written}
use Rattle.synth_cmd.specs.declared.TheConstants.{DONE, SHORTFALL}

-- A source was these bytes: those of a file that is not too long, or those of the demo of a number.
abbrev pub WasText : Settings → Option Shelf → Origin → List ℕ → Type 0
WasText settings held (File name) bytes = HoldsText held name bytes
WasText settings held (Demo number) bytes = bytes ≡ demo_text number settings.form

-- no advisor is asked but for a search
abbrev pub KeepsAdvisors : Asked → Option Shelf → (before after : List Advised) → Type 0
KeepsAdvisors Refused held before after = after ≡ before
KeepsAdvisors (Synth settings source net vectors) held before after = AdvisorsStand settings (WasText settings held source) before after
KeepsAdvisors (Grade mode net vectors) held before after = after ≡ before

-- each status by its stage, and each cause with its status; no count rises but those of the names that it reads, of those that it writes,
-- and of the report
pub record Ends (asked : Asked) (old new : Outside) (status : ℕ) : Type 0 where
  pub ending : Ending asked old new status
  pub complete : IsComplete asked old new status
  pub reads : CountsAmong (names_read asked) old.world.reads new.world.reads
  pub writes : CountsAmong (names_written asked) old.world.writes new.world.writes
  pub faults : old.faults ≤ new.faults
  pub advisors : KeepsAdvisors asked old.world.held old.world.advisors new.world.advisors

-- the report of what was asked for is written
abbrev pub IsReported : ℕ → Type 0
IsReported status = (status ≡ DONE) ⊎ (status ≡ SHORTFALL)
