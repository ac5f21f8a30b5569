use Rattle.std.proofs.Common.{◌≡◌, ◌≤◌, false, length}
use Rattle.fault_sim.specs.Sites.{IsHeld}
use Rattle.fault_sim.specs.Taken.{IsTaken}
use Rattle.fault_sim.proofs.alone.take_next.Given as goal

abbrev pub invariant-loop-k : goal.invariant-loop-k
invariant-loop-k l = record {
  held : IsHeld l.net l.held;
  all : l.held.all ≡ false;
  from : l.fn.from ≤ l.k;
  first : l.k ≡ l.fn.from → length l.ids.items ≡ 0;
  taken : IsTaken l.list l.found l.ids.items l.held.faults.items l.fn.from l.k;
}
