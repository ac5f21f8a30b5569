use Rattle.std.proofs.Common.{arith, ap, length}
use Rattle.fault_sim.proofs.pass.write_good_at.Goals as goal

pub returns-clause-good : goal.returns-clause-good
returns-clause-good c l lt = c.write_gates.ensures.runs l c.args.point.now lt (λ j within. c.loop-j.invariant.1 j l (omega (arith, within, c.loop-j-test.false, c.loop-j.auto.j-end, ap length c.inputs-j-end.ensures.inputs)) lt)
