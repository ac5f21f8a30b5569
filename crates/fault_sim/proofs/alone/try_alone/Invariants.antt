use Rattle.std.proofs.Common.{◌≡◌, false, length}
use Rattle.fault_sim.specs.Bench.{IsBench}
use Rattle.fault_sim.specs.Lanes.{AreFirstBelow}
use Rattle.fault_sim.proofs.alone.try_alone.Given as goal

abbrev pub invariant-loop-p : goal.invariant-loop-p
invariant-loop-p l = record {
  bench : IsBench l.net l.bench;
  all : l.bench.held.all ≡ false;
  len : length l.found ≡ length l.fn.found;
  first : AreFirstBelow l.net l.points 0 l.list l.fn.found 0 (length l.list) → AreFirstBelow l.net l.points l.p l.list l.found 0 (length l.list);
}
