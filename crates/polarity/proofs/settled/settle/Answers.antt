use Rattle.polarity.proofs.Rounds.{settles-on, settled-is, settled-cheapest}
use Rattle.polarity.proofs.settled.settle.Goals as goal

pub loop-settled-preserved : goal.loop-settled-preserved
loop-settled-preserved c = settles-on c.cost_law.ensures c.args.e c.loop-settled.settled c.in-Some.cheaper c.loop-settled.invariant (rw c.in-Some.is at c.in_ok-cheaper.ensures)

pub returns-clause-settling : goal.returns-clause-settling
returns-clause-settling c = settled-is c.args.e c.loop-settled.settled c.loop-settled.invariant (rw c.in_default.is at c.in_ok-cheaper.ensures)

pub returns-clause-cheapest : goal.returns-clause-cheapest
returns-clause-cheapest c = settled-cheapest c.args.e c.loop-settled.settled c.loop-settled.invariant (rw c.in_default.is at c.in_ok-cheaper.ensures)
