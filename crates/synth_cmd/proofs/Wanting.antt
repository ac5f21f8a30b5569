-- How a call ends where memory is wanting before its words are read.
use Rattle.std.proofs.Common.{◌≡◌, ◌≤◌, inl, ℕ, List, Option, refl}
use Rattle.ae_outside.specs.Files.{Shelf, TookFront}
use Rattle.polarity.specs.Search.{Advised}
use Rattle.synth_cmd.specs.Asked.{Asked}
use Rattle.synth_cmd.specs.Asked.Asked.{Refused, Synth, Grade}
use Rattle.synth_cmd.specs.Ends.{KeepsAdvisors}
use Rattle.synth_cmd.specs.Lines.{memory_line}
use Rattle.synth_cmd.specs.Outcome.Ending.{untouched}
use Rattle.synth_cmd.specs.Outside.{Outside, World, outside}
use Rattle.synth_cmd.specs.Reading.{names_read, names_written}
use Rattle.synth_cmd.specs.Telling.{Closes}
use Rattle.synth_cmd.specs.declared.TheConstants.{MEMORY}
use Rattle.synth_cmd.proofs.Names.{among_none}

pub keeps : (asked : Asked) (held : Option Shelf) (advisors : List Advised) → KeepsAdvisors asked held advisors advisors
keeps Refused held advisors = refl
keeps (Synth settings source net vectors) held advisors = inl refl
keeps (Grade mode net vectors) held advisors = refl

pub closes_wanting : (asked : Asked) (world : World) (taken took : Option (List ℕ)) (before now status : ℕ) → status ≡ MEMORY → TookFront memory_line taken took → before ≤ now
    → Closes asked (outside world taken before) (outside world took now) status
closes_wanting asked world taken took before now status is front counts = record {
  ending = untouched is refl front;
  reads = among_none (names_read asked) world.reads world.reads refl;
  writes = among_none (names_written asked) world.writes world.writes refl;
  faults = counts;
  advisors = keeps asked world.held world.advisors;
}
