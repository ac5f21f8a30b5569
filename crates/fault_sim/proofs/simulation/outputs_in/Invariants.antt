use Rattle.std.proofs.Common.{◌≡◌}
use Rattle.std.specs.Prelude.{slice_index}
use Rattle.ae_base.specs.Mask.{has, where_below}
use Rattle.fault_sim.proofs.simulation.outputs_in.Given as goal

abbrev pub invariant-loop-o : goal.invariant-loop-o
invariant-loop-o l = l.ones ≡ where_below l.o (λ o. has (slice_index l.words (slice_index l.outputs o)) l.lane)
