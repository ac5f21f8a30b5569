use Rattle.std.proofs.Common.{subst}
use Rattle.synth_cmd.specs.Asked.{asked}
use Rattle.synth_cmd.specs.Headline.{HasHeadline}
use Rattle.synth_cmd.specs.Words.{IsFit}
use Rattle.synth_cmd.proofs.Completed.{ends_as, ends_of}
use Rattle.synth_cmd.proofs.Promised.{promised}
use Rattle.synth_cmd.proofs.Wanting.{closes_wanting}
use Rattle.synth_cmd.proofs.top.run.Goals as goal

pub returns-in-Ok-clause-ends : goal.returns-in-Ok-clause-ends
returns-in-Ok-clause-ends g c =
    ends_as c.one_answer_law.ensures.apart c.grade_law.ensures.names c.grade_law.ensures.one _ _ _ _ _ c.in-Ok.ensures.asked c.obey.ensures

pub returns-in-Err-clause-ends : goal.returns-in-Err-clause-ends
returns-in-Err-clause-ends g c =
    ends_of c.one_answer_law.ensures.apart c.grade_law.ensures.names c.grade_law.ensures.one _ _ _ _
    (closes_wanting (asked c.args.words.now) _ _ _ _ _ _ c.want_memory.ensures.status c.want_memory.ensures.told c.want_memory.ensures.counts)

pub returns-in-Ok-clause-headline : goal.returns-in-Ok-clause-headline
returns-in-Ok-clause-headline g c done =
    subst (λ asked. HasHeadline asked (g.F.Files.held c.args.files.now) (g.F.Files.held c.obey.new.files)) c.in-Ok.ensures.asked
    (promised c.file_laws.ensures.holds c.file_laws.ensures.others c.grade_law.ensures.sound _ _ _ _ c.in-Ok.ensures.fit c.obey.ensures.ending done)
