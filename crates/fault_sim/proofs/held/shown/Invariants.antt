use Rattle.std.proofs.Common.{◌≡◌, ◌<◌, ◌≤◌, ◌-◌, ℕ, length}
use Rattle.std.specs.Prelude.{slice_get}
use Rattle.ae_base.specs.Mask.{has}
use Rattle.ae_net.specs.Run.{seen}
use Rattle.fault_sim.specs.declared.words.TheConstants.{LANES}
use Rattle.fault_sim.specs.Sites.{entry, site, site_at}
use Rattle.fault_sim.proofs.held.shown.Given as goal

abbrev pub invariant-loop-end : goal.invariant-loop-end
invariant-loop-end v = record {
  within : v.end ≤ length v.held.faults.items;
  at : 0 < v.end → site_at v.net v.held.faults.items (v.end - 1) ≡ site v.net v.at;
  done : (l : ℕ) → l < LANES → v.end ≤ entry v.held.all l → has v.word l ≡ seen (slice_get v.held.faults.items (entry v.held.all l)) v.at (has v.fn.word l);
  left : (l : ℕ) → l < LANES → entry v.held.all l < v.end → has v.word l ≡ has v.fn.word l;
}

abbrev pub decreases-loop-end : goal.decreases-loop-end
decreases-loop-end l = l.end
