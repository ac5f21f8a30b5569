use Rattle.std.proofs.Common.{◌≡◌, ◌+◌, ◌≤◌, List, length, map, take}
use Rattle.std.specs.Prelude.{None}
use Rattle.ae_base.specs.Mask.{Set}
use Rattle.ae_net.specs.Out.{out}
use Rattle.fault_sim.specs.Lanes.{IsPass}
use Rattle.fault_sim.proofs.simulation.push_outs.Given as goal

abbrev pub invariant-loop-lane : goal.invariant-loop-lane
invariant-loop-lane l = (points : List Set) → l.base + l.count ≤ length points → IsPass l.net points l.base l.count l.words
    → l.fn.outs.items ≡ map (out l.net None) (take l.base points) → l.outs.items ≡ map (out l.net None) (take (l.base + l.lane) points)
