use Rattle.expansion.specs.Terms.{cost}
use Rattle.polarity.proofs.Rounds.{Settles}
use Rattle.polarity.proofs.settled.settle.Given as goal

abbrev pub invariant-loop-settled : goal.invariant-loop-settled
invariant-loop-settled l = Settles l.fn.e l.settled

abbrev pub decreases-loop-settled : goal.decreases-loop-settled
decreases-loop-settled l = cost l.settled
