use Rattle.std.proofs.Common.{◌≤◌, ◌-◌, length}
use Rattle.fault_sim.specs.Sites.{fault_in}
use Rattle.fault_sim.specs.Spread.{AreMarks, IsCone, IsSpread}
use Rattle.fault_sim.proofs.cone.spread.Given as goal

abbrev pub invariant-gates : goal.invariant-gates
invariant-gates l = record {
  cone : IsCone l.net l.cone;
  marks : AreMarks l.net l.cone l.next;
  from : l.fn.start ≤ l.next;
  spread : IsSpread l.net (fault_in l.held) l.good l.cone l.next l.next;
}

abbrev pub decreases-gates : goal.decreases-gates
decreases-gates l = length l.net.gates - l.next
