use Rattle.std.proofs.Common.{◌≡◌, ◌<◌, ℕ, length}
use Rattle.std.specs.Prelude.{◌⊎◌, slice_index}
use Rattle.fault_sim.specs.Marks.{IsAmong}
use Rattle.fault_sim.specs.Spread.{row}
use Rattle.fault_sim.proofs.readers.add_reader.Given as goal

abbrev pub invariant-loop-pin : goal.invariant-loop-pin
invariant-loop-pin l = record {
  kept : (s i : ℕ) → IsAmong (row l.fn.readers s) i → IsAmong (row l.readers s) i;
  each : (k : ℕ) → k < l.pin-index → IsAmong (row l.readers (slice_index l.pins k)) l.gate;
  only : (s i : ℕ) → IsAmong (row l.readers s) i → (IsAmong (row l.fn.readers s) i) ⊎ ((i ≡ l.gate) × IsAmong l.pins s);
  len : length l.readers ≡ length l.fn.readers;
}
