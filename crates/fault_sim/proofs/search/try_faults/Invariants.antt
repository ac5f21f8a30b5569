use Rattle.std.proofs.Common.{◌≡◌, ◌+◌, true, List, length}
use Rattle.ae_base.specs.Mask.{Set}
use Rattle.fault_sim.specs.Bench.{IsBench}
use Rattle.fault_sim.specs.Lanes.{AreFirstBelow, IsPass}
use Rattle.fault_sim.proofs.search.try_faults.Given as goal

abbrev pub invariant-loop-k : goal.invariant-loop-k
invariant-loop-k l = record {
  bench : IsBench l.net l.bench;
  good : l.bench.good ≡ l.fn.bench.good;
  all : l.bench.held.all ≡ true;
  len : length l.found ≡ length l.fn.found;
  first : (points : List Set) → IsPass l.net points l.base l.count l.bench.good.items → AreFirstBelow l.net points l.base l.list l.fn.found 0 (length l.list)
      → AreFirstBelow l.net points (l.base + l.count) l.list l.found 0 l.k × AreFirstBelow l.net points l.base l.list l.found l.k (length l.list);
}
