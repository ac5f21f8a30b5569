-- How a command ends after each of its steps.
use Rattle.std.proofs.Common.{◌≡◌, ◌⊎◌, inl, inr, ℕ, List, Option}
use Rattle.std.specs.Prelude.{Err}
use Rattle.synth_cmd.specs.Asked.{Asked}
use Rattle.synth_cmd.specs.Outcome.{Ending, Product, Stands}
use Rattle.synth_cmd.specs.Outcome.Ending.{at_stage, untouched, in_part, half_told}
use Rattle.synth_cmd.specs.Outcome.Stage.{Refuses, Fails, Finishes}
use Rattle.synth_cmd.specs.Outside.{Outside, World}
use Rattle.synth_cmd.specs.Stops.{of_unmade}
use Rattle.synth_cmd.specs.Telling.{Comes, Gives, Reports, Tells, TellsStop}
use Rattle.synth_cmd.specs.Lines.{line_of, status_of}
use Rattle.synth_cmd.specs.declared.stop.Refusal.{Refusal}
use Rattle.synth_cmd.specs.declared.stop.Stop.{Stop}
use Rattle.synth_cmd.specs.declared.stop.Stop.TheVariants as stop
use Rattle.synth_cmd.specs.declared.stop.Unmade.{Unmade}
use Rattle.synth_cmd.specs.declared.stop.Unmade.TheVariants as unmade

module _ (asked : Asked) (old new : Outside) (status : ℕ) where
  -- after all is written
  pub ends_finished : (product : Product) → Stands asked old.world new.world (Finishes product) → Reports product.lines product.status old.taken new.taken old.faults new.faults status → Ending asked old new status
  ends_finished product stands (inl whole) = at_stage (Finishes product) stands (inl whole)
  ends_finished product stands (inr (inl fault)) = at_stage (Finishes product) stands (inr fault)
  ends_finished product stands (inr (inr memory)) = half_told (Finishes product) memory.0 stands memory.1

  -- after a refusal
  pub ends_refused : (r : Refusal) → Stands asked old.world new.world (Refuses r) → Tells (line_of r) (status_of r) old.taken new.taken old.faults new.faults status → Ending asked old new status
  ends_refused r stands (inl told) = at_stage (Refuses r) stands told
  ends_refused r stands (inr memory) = half_told (Refuses r) memory.0 stands memory.1

  -- after a stop
  pub ends_stopped : {T : Type 0} (product : T → Product) (s : Stop) → Comes product asked old.world new.world (Err s) → TellsStop s old.taken new.taken old.faults new.faults status → Ending asked old new status
  ends_stopped product (stop.Refused r) stands told = ends_refused r stands told
  ends_stopped product (stop.WriteFault file) failed (inl told) = at_stage (Fails file.now failed.0) failed.1 told
  ends_stopped product (stop.WriteFault file) failed (inr memory) = half_told (Fails file.now failed.0) memory.0 failed.1 memory.1
  ends_stopped product stop.Memory (inl stays) told = untouched told.0 stays told.1
  ends_stopped product stop.Memory (inr part) told = in_part part.0 part.1 told.0 part.2 part.3 told.1

-- where nothing is made, the files are as before
pub comes_unmade : {T U : Type 0} (p : T → Product) (q : U → Product) (asked : Asked) (old new : World) (u : Unmade) → new.held ≡ old.held → Gives p asked old new (Err u) → Comes q asked old new (Err (of_unmade u))
comes_unmade p q asked old new (unmade.Refused r) stays gives = gives
comes_unmade p q asked old new unmade.Memory stays gives = inl stays
