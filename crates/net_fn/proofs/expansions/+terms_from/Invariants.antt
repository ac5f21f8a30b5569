use Rattle.std.proofs.Common.{◌-◌}
use Rattle.net_fn.proofs.expansions.+terms_from.Given as goal

abbrev pub decreases-terms_from : goal.decreases-terms_from
decreases-terms_from g l = l.polarity.n - l.j
