use Rattle.std.proofs.Common.{inr}
use Rattle.synth_cmd.proofs.Telling.{tells_none}
use Rattle.synth_cmd.proofs.tell.finish_grade.Goals as goal

pub returns-in-Err-clause-told : goal.returns-in-Err-clause-told
returns-in-Err-clause-told g c = inr (inr (c.want_memory.ensures.status, tells_none _ _ _ c.want_memory.ensures.told))
