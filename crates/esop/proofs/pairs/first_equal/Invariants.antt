use Rattle.esop.proofs.Steps.{Differ}
use Rattle.esop.proofs.pairs.first_equal.Given as goal

abbrev pub invariant-loop-second : goal.invariant-loop-second
invariant-loop-second l = Differ l.cubes l.second
