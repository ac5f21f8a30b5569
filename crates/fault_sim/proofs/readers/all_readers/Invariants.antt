use Rattle.std.proofs.Common.{◌≡◌, ◌<◌, ◌+◌, ℕ, length}
use Rattle.std.specs.Prelude.{Some, slice_get, slice_index}
use Rattle.ae_net.specs.Network.{signals}
use Rattle.ae_net.specs.declared.net.Gate.{Gate}
use Rattle.fault_sim.specs.Marks.{IsAmong}
use Rattle.fault_sim.specs.Spread.{row}
use Rattle.fault_sim.proofs.readers.all_readers.Given as goal

abbrev pub invariant-loop-i : goal.invariant-loop-i
invariant-loop-i l = record {
  all : length l.readers.items ≡ signals l.net;
  later : (s j : ℕ) → IsAmong (row l.readers.items s) j → (s < length l.net.inputs + j) × (j < length l.net.gates);
  each : (j : ℕ) (gate : Gate) (k : ℕ) → j < l.i → slice_get l.net.gates j ≡ Some gate → k < length gate.pins → IsAmong (row l.readers.items (slice_index gate.pins k)) j;
}
