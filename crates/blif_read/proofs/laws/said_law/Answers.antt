use Rattle.blif_read.proofs.Said.{said_valid, said_keeps, written_keeps}
use Rattle.blif_read.proofs.laws.said_law.Goals as goal

pub returns-clause-valid : goal.returns-clause-valid
returns-clause-valid c = said_valid

pub returns-clause-keeps : goal.returns-clause-keeps
returns-clause-keeps c = said_keeps

pub returns-clause-written : goal.returns-clause-written
returns-clause-written c = written_keeps
