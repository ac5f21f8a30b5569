use Rattle.factor.proofs.Law.{value_of_sum}
use Rattle.factor.proofs.Taken.{factors_differ}
use Rattle.factor.proofs.Meaning.{one_sum}
use Rattle.factor.proofs.laws.sum_law.Goals as goal

pub returns-clause-only : goal.returns-clause-only
returns-clause-only c = one_sum

pub returns-clause-factors : goal.returns-clause-factors
returns-clause-factors c = factors_differ

pub returns-clause-value : goal.returns-clause-value
returns-clause-value c = value_of_sum
