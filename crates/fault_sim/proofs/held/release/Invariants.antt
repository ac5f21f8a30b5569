use Rattle.std.proofs.Common.{◌≡◌, ◌<◌, ◌≤◌, ◌-◌, ℕ, length}
use Rattle.std.specs.Prelude.{◌⊎◌, slice_index}
use Rattle.fault_sim.specs.Sites.{site_at}
use Rattle.fault_sim.proofs.held.release.Given as goal

abbrev pub invariant-loop-e : goal.invariant-loop-e
invariant-loop-e l = record {
  faults : l.held.faults ≡ l.fn.held.faults;
  before : l.held.before ≡ l.fn.held.before;
  all : l.held.all ≡ l.fn.held.all;
  count : length l.held.last.items ≡ length l.fn.held.last.items;
  freed : (e : ℕ) → e < l.e → slice_index l.held.last.items (site_at l.net l.held.faults.items e) ≡ 0;
  kept : (s : ℕ) → (slice_index l.held.last.items s ≡ 0) ⊎ (slice_index l.held.last.items s ≡ slice_index l.fn.held.last.items s);
}
