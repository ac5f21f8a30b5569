use Rattle.std.proofs.Common.{inr, [], refl}
use Rattle.synth_cmd.specs.declared.stop.Refusal.TheVariants.{Words}
use Rattle.synth_cmd.proofs.Ends.{ends_refused}
use Rattle.synth_cmd.proofs.Names.{among_none}
use Rattle.synth_cmd.proofs.top.obey.Goals as goal

pub returns-in-Refused : goal.returns-in-Refused
returns-in-Refused g c =
    rw c.in-Refused.is (record {
      ending = ends_refused _ _ _ _ Words (record { cause = inr ([], tt, tt); held = refl; advisors = refl }) c.refuse.ensures.told;
      reads = among_none _ _ _ refl;
      writes = among_none _ _ _ refl;
      faults = c.refuse.ensures.counts;
      advisors = refl;
    })

pub returns-in-Synth : goal.returns-in-Synth
returns-in-Synth g c = rw c.in-Synth.is c.synth_command.ensures

pub returns-in-Grade : goal.returns-in-Grade
returns-in-Grade g c = rw c.in-Grade.is (c.grade_command.ensures _)
