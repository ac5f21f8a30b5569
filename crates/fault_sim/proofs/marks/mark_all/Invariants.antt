use Rattle.std.proofs.Common.{◌≡◌, ◌<◌, ℕ, true, false, length}
use Rattle.std.specs.Prelude.{slice_index}
use Rattle.fault_sim.specs.Marks.{IsAmong, is_marked}
use Rattle.fault_sim.proofs.marks.mark_all.Given as goal

abbrev pub invariant-loop-i : goal.invariant-loop-i
invariant-loop-i l = record {
  each : (k : ℕ) → k < l.i-index → is_marked l.marks (slice_index l.list k) ≡ true;
  kept : (j : ℕ) → is_marked l.fn.marks j ≡ true → is_marked l.marks j ≡ true;
  only : (j : ℕ) → is_marked l.marks j ≡ true → is_marked l.fn.marks j ≡ false → IsAmong l.list j;
  len : length l.marks ≡ length l.fn.marks;
}
