use Rattle.blif_read.proofs.WrittenAgain.{says_again}
use Rattle.blif_read.proofs.laws.said_again.Goals as goal

pub returns : goal.returns
returns c = says_again
