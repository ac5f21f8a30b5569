use Rattle.factor.proofs.Law.{same_count, fewer_count}
use Rattle.factor.proofs.laws.count_law.Goals as goal

pub returns-clause-terms : goal.returns-clause-terms
returns-clause-terms c e d = same_count e.outs d.outs

pub returns-clause-fewer : goal.returns-clause-fewer
returns-clause-fewer c d e = fewer_count d.outs e.outs
