use Rattle.std.proofs.Common.{◌∙◌, subst, inr}
use Rattle.synth_cmd.specs.Telling.{Tells}
use Rattle.synth_cmd.proofs.Telling.{tells_none}
use Rattle.synth_cmd.proofs.tell.tell_made.Goals as goal

pub returns-in-Ok-clause-told : goal.returns-in-Ok-clause-told
returns-in-Ok-clause-told g c text is =
    subst
    (λ line. Tells line c.args.status (g.K.Sink.taken c.args.report.now) (g.K.Sink.taken c.tell.new.report) (g.K.Sink.faults c.args.report.now) (g.K.Sink.faults c.tell.new.report) c.tell.result)
    (c.as_bytes.ensures.value ∙ (rw c.in-Ok.is at is)) c.tell.ensures.told

pub returns-in-Err-clause-told : goal.returns-in-Err-clause-told
returns-in-Err-clause-told g c text is = inr (c.want_memory.ensures.status, tells_none _ _ _ c.want_memory.ensures.told)
