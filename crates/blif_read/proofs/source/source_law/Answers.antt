use Rattle.blif_read.proofs.Both.{source_ok, source_plain}
use Rattle.blif_read.proofs.source.source_law.Goals as goal

pub returns-clause-valid : goal.returns-clause-valid
returns-clause-valid c = λ text s h. (source_ok text s h).0

pub returns-clause-keeps : goal.returns-clause-keeps
returns-clause-keeps c = λ text s h. (source_ok text s h).1

pub returns-clause-plain : goal.returns-clause-plain
returns-clause-plain c = source_plain
