use Rattle.std.proofs.Common.{◌≡◌, ◌<◌, ◌-◌, ℕ, true, false, length}
use Rattle.fault_sim.specs.Marks.{is_marked}
use Rattle.fault_sim.specs.Spread.{AreChanged, IsAsLong}
use Rattle.fault_sim.proofs.cone.restore.Given as goal

abbrev pub invariant-signals : goal.invariant-signals
invariant-signals l = record {
  from : (s : ℕ) → s < l.next → is_marked l.cone.changed.items s ≡ false;
  signals : (s : ℕ) → is_marked l.cone.changed.items s ≡ true → s < length l.good;
  changed : AreChanged l.good l.cone;
  marked : l.cone.marked ≡ l.fn.cone.marked;
  len : IsAsLong l.fn.cone l.cone;
}

abbrev pub decreases-signals : goal.decreases-signals
decreases-signals l = length l.good - l.next
