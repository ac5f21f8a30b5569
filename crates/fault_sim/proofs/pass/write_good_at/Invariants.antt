use Rattle.std.proofs.Common.{◌≡◌, ◌<◌, ℕ, length}
use Rattle.std.specs.Prelude.{slice_index}
use Rattle.ae_base.specs.Mask.{has}
use Rattle.fault_sim.specs.declared.words.TheConstants.{LANES}
use Rattle.fault_sim.proofs.pass.write_good_at.Given as goal

abbrev pub invariant-loop-j : goal.invariant-loop-j
invariant-loop-j v = (length v.good ≡ length v.fn.good) × ((j l : ℕ) → j < v.j → l < LANES → has (slice_index v.good j) l ≡ has v.point j)
