use Rattle.std.proofs.Common.{◌+◌}
use Rattle.davio_dd.proofs.diagram.Davio.+sum.Given as goal

abbrev pub decreases-sum : goal.decreases-sum
decreases-sum l = l.a + l.b
