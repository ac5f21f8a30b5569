use Rattle.std.proofs.Common.{arith}
use Rattle.std.specs.Prelude.{slice_index}
use Rattle.fault_sim.proofs.pass.write_good.Goals as goal

pub returns-clause-good : goal.returns-clause-good
returns-clause-good c l lt = c.write_gates.ensures.runs l (slice_index c.args.points.now l) (omega (arith, lt, c.requires.few)) (λ j within. c.write_inputs.ensures.inputs l j lt within)
