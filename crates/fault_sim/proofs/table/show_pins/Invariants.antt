use Rattle.std.proofs.Common.{◌≡◌, ◌<◌, ℕ, length}
use Rattle.std.specs.Prelude.{slice_index}
use Rattle.ae_base.specs.Mask.{has}
use Rattle.ae_net.specs.Run.{seen}
use Rattle.ae_net.specs.declared.net.Place.TheVariants.{Pin}
use Rattle.fault_sim.specs.declared.words.TheConstants.{LANES}
use Rattle.fault_sim.specs.Sites.{fault_in}
use Rattle.fault_sim.proofs.table.show_pins.Given as goal

abbrev pub invariant-loop-k : goal.invariant-loop-k
invariant-loop-k v = record {
  len : length v.seen ≡ length v.fn.seen;
  pins : (k l : ℕ) → k < v.k → l < LANES → has (slice_index v.seen k) l ≡ seen (fault_in v.held l) (Pin v.i k) (has (slice_index v.words (slice_index v.pins k)) l);
}
