use Rattle.std.proofs.Common.{◌≡◌, ◌-◌, ◌≤◌, length, map, take}
use Rattle.std.specs.Prelude.{None}
use Rattle.ae_net.specs.Network.{signals}
use Rattle.ae_net.specs.Out.{out}
use Rattle.fault_sim.proofs.simulation.push_all.Given as goal

abbrev pub invariant-loop-base : goal.invariant-loop-base
invariant-loop-base l = record {
  room : signals l.net ≡ length l.words;
  within : l.base ≤ length l.points;
  outs : l.outs.items ≡ map (out l.net None) (take l.base l.points);
}

abbrev pub decreases-loop-base : goal.decreases-loop-base
decreases-loop-base l = length l.points - l.base
