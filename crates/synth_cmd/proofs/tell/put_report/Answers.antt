use Rattle.std.proofs.Common.{inr}
use Rattle.synth_cmd.proofs.Telling.{tells_both}
use Rattle.synth_cmd.proofs.tell.put_report.Goals as goal

pub returns-in-Err-Memory-clause-told : goal.returns-in-Err-Memory-clause-told
returns-in-Err-Memory-clause-told g c = inr (inr (c.want_memory.ensures.status, tells_both _ _ c.file_laws.ensures.joined _ _ c.in-Err-Memory.ensures.front c.want_memory.ensures.told))
