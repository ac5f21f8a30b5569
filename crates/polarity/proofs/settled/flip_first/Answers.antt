use Rattle.std.proofs.Common.{arith}
use Rattle.polarity.proofs.Rounds.{is_round, none-is}
use Rattle.polarity.proofs.settled.flip_first.Goals as goal

pub returns-then-pairs-now : goal.returns-then-pairs-now
returns-then-pairs-now c =
    is_round c.cost_law.ensures c.args.e.now c.in_ok-flipped.flipped c.loop-j.j c.in_ok-flipped.ensures.polarity c.in_ok-flipped.ensures.functions (omega (arith, c.loop-j-test.true, c.inputs-j-end.ensures.inputs))
    c.loop-j.invariant (omega (arith, c.if-pairs-now.true, c.pairs.ensures, c.pairs-now.ensures))

pub returns : goal.returns
returns c = λ s are. none-is s c.args.e.now.polarity (λ i l. c.loop-j.invariant s are i (omega (arith, l, c.loop-j-test.false, c.inputs-j-end.ensures.inputs)))
