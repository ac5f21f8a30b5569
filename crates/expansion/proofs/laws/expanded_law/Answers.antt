use Rattle.expansion.proofs.Listed.{all_live, source_expanded}
use Rattle.expansion.proofs.laws.expanded_law.Goals as goal

pub returns-clause-live : goal.returns-clause-live
returns-clause-live c = all_live

pub returns-clause-source : goal.returns-clause-source
returns-clause-source c = source_expanded
