use Rattle.std.proofs.Common.{◌≡◌, ◌<◌, ℕ, not}
use Rattle.ae_base.specs.Mask.{has}
use Rattle.fault_sim.specs.Lanes.{each_below, port_differs}
use Rattle.fault_sim.specs.Sites.{fault_in}
use Rattle.fault_sim.specs.declared.words.TheConstants.{LANES}
use Rattle.fault_sim.proofs.cone.ports_apart.Given as goal

abbrev pub invariant-loop-o : goal.invariant-loop-o
invariant-loop-o l = (lane : ℕ) → lane < LANES → has l.word lane ≡ not (each_below l.o (λ o. not (port_differs l.net.outputs (fault_in l.held lane) l.good l.words lane o)))
