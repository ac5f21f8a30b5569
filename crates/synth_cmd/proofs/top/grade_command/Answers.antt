use Rattle.std.proofs.Common.{refl}
use Rattle.synth_cmd.specs.Outcome.{grading_of}
use Rattle.synth_cmd.proofs.Ends.{comes_unmade, ends_finished, ends_stopped}
use Rattle.synth_cmd.proofs.Names.{among_none}
use Rattle.synth_cmd.proofs.top.grade_command.Goals as goal

pub returns-in-Ok : goal.returns-in-Ok
returns-in-Ok g c advisors =
    let e = c.in-Ok.ensures in
    record {
      ending = ends_finished _ _ _ _ (grading_of c.args.mode c.in-Ok.found) (e.gives advisors, e.stays, e.quiet, e.writes) c.finish_grade.ensures.told;
      reads = e.reads;
      writes = among_none _ _ _ e.writes;
      faults = c.finish_grade.ensures.counts;
      advisors = refl;
    }

pub returns-in-Err : goal.returns-in-Err
returns-in-Err g c advisors =
    let e = c.in-Err.ensures in
    record {
      ending = ends_stopped _ _ _ _ (grading_of c.args.mode) _ (comes_unmade (grading_of c.args.mode) (grading_of c.args.mode) _ _ _ c.in-Err.unmade e.stays (e.gives advisors))
          (rw c.stop_of.ensures at c.tell_stop.ensures.told);
      reads = e.reads;
      writes = among_none _ _ _ e.writes;
      faults = c.tell_stop.ensures.counts;
      advisors = refl;
    }
