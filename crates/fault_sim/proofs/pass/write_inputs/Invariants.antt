use Rattle.std.proofs.Common.{◌≡◌, ◌<◌, ℕ, length}
use Rattle.std.specs.Prelude.{slice_index}
use Rattle.ae_base.specs.Mask.{has}
use Rattle.fault_sim.proofs.pass.write_inputs.Given as goal

abbrev pub invariant-loop-j : goal.invariant-loop-j
invariant-loop-j v = (length v.good ≡ length v.fn.good) × ((l j : ℕ) → l < length v.points → j < v.j → has (slice_index v.good j) l ≡ has (slice_index v.points l) j)
