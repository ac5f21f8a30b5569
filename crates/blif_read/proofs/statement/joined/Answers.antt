use Rattle.std.proofs.Common.{arith, append_assoc}
use Rattle.std.proofs.lemmas.Grind.{common_steps}
use Rattle.blif_read.proofs.Words.{joined_more}
use Rattle.blif_read.proofs.statement.joined.Goals as goal

pub loop-word-preserved : goal.loop-word-preserved
loop-word-preserved c = grind (arith, common_steps, joined_more, append_assoc)
