use Rattle.vec_text.proofs.Said.{said_valid}
use Rattle.vec_text.proofs.laws.said_law.Goals as goal

pub returns : goal.returns
returns c = said_valid
