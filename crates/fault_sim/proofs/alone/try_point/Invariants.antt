use Rattle.std.proofs.Common.{◌≡◌, ◌≤◌, ◌+◌, ◌-◌, false, List, length}
use Rattle.std.specs.Prelude.{slice_index}
use Rattle.ae_base.specs.Mask.{Set}
use Rattle.fault_sim.specs.Bench.{IsBench}
use Rattle.fault_sim.specs.Lanes.{AreFirstBelow, IsAlone}
use Rattle.fault_sim.proofs.alone.try_point.Given as goal

abbrev pub invariant-loop-from : goal.invariant-loop-from
invariant-loop-from l = record {
  bench : IsBench l.net l.bench;
  all : l.bench.held.all ≡ false;
  good : l.bench.good ≡ l.fn.bench.good;
  len : length l.found ≡ length l.fn.found;
  within : l.from ≤ length l.list;
  first : (points : List Set) → IsAlone l.net (slice_index points l.point) l.fn.bench.good.items → AreFirstBelow l.net points l.point l.list l.fn.found 0 (length l.list) → AreFirstBelow l.net points (l.point + 1) l.list l.found 0 l.from × AreFirstBelow l.net points l.point l.list l.found l.from (length l.list);
}

abbrev pub decreases-loop-from : goal.decreases-loop-from
decreases-loop-from l = length l.list - l.from
