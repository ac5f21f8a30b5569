use Rattle.std.proofs.Common.{◌-◌, length}
use Rattle.net_fn.proofs.cubes.+some_from.Given as goal

abbrev pub decreases-some_from : goal.decreases-some_from
decreases-some_from g l = length l.refs.now - l.from
