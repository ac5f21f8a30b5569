use Rattle.std.proofs.Common.{◌≡◌, ◌-◌, ◌≤◌, true, length}
use Rattle.fault_sim.specs.Bench.{IsBench}
use Rattle.fault_sim.specs.Lanes.{AreFirstBelow}
use Rattle.fault_sim.proofs.search.try_passes.Given as goal

abbrev pub invariant-loop-base : goal.invariant-loop-base
invariant-loop-base l = record {
  bench : IsBench l.net l.bench;
  all : l.bench.held.all ≡ true;
  within : l.base ≤ length l.points;
  len : length l.found ≡ length l.fn.found;
  first : AreFirstBelow l.net l.points l.base l.list l.found 0 (length l.list);
}

abbrev pub decreases-loop-base : goal.decreases-loop-base
decreases-loop-base l = length l.points - l.base
