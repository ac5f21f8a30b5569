use Rattle.factor.proofs.Meaning.{standing}
use Rattle.factor.proofs.sums.+sum_of.Given as goal

abbrev pub decreases-sum_of : goal.decreases-sum_of
decreases-sum_of l = standing l.n l.cubes.now
