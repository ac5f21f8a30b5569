use Rattle.std.proofs.Common.{◌≡◌, ◌<◌, ℕ, length}
use Rattle.std.specs.Prelude.{slice_index}
use Rattle.fault_sim.proofs.table.read_pins.Given as goal

abbrev pub invariant-loop-k : goal.invariant-loop-k
invariant-loop-k l = (length l.seen ≡ length l.fn.seen) × ((k : ℕ) → k < l.k → slice_index l.seen k ≡ slice_index l.words (slice_index l.pins k))
