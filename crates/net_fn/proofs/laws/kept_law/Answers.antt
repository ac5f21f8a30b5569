use Rattle.net_fn.proofs.Alike.{ShowSignals-kept}
use Rattle.net_fn.proofs.References.{ShowEach-kept}
use Rattle.net_fn.proofs.laws.kept_law.Goals as goal

pub returns-clause-functions : goal.returns-clause-functions
returns-clause-functions c = ShowEach-kept

pub returns-clause-signals : goal.returns-clause-signals
returns-clause-signals c = ShowSignals-kept
