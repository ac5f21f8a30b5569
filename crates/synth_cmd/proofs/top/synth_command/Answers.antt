use Rattle.synth_core.specs.Made.{texts_of}
use Rattle.synth_cmd.specs.Outcome.{synthesis_of}
use Rattle.synth_cmd.proofs.Ends.{ends_finished, ends_stopped}
use Rattle.synth_cmd.proofs.top.synth_command.Goals as goal

pub returns-in-Ok : goal.returns-in-Ok
returns-in-Ok g c =
    let works = c.in-Ok.ensures in
    record {
      ending = ends_finished _ _ _ _ (synthesis_of (texts_of c.in-Ok.made)) works.comes c.finish.ensures.told;
      reads = works.reads;
      writes = works.writes;
      faults = c.finish.ensures.counts;
      advisors = works.advisors;
    }

pub returns-in-Err : goal.returns-in-Err
returns-in-Err g c =
    let works = c.in-Err.ensures in
    record {
      ending = ends_stopped _ _ _ _ (λ made. synthesis_of (texts_of made)) c.in-Err.stop works.comes c.tell_stop.ensures.told;
      reads = works.reads;
      writes = works.writes;
      faults = c.tell_stop.ensures.counts;
      advisors = works.advisors;
    }
