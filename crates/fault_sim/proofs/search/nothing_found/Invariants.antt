use Rattle.std.proofs.Common.{◌≡◌, length}
use Rattle.fault_sim.specs.Lanes.{AreNone}
use Rattle.fault_sim.proofs.search.nothing_found.Given as goal

abbrev pub invariant-loop : goal.invariant-loop
invariant-loop l = AreNone l.found.items × (length l.found.items ≡ l.counter)
