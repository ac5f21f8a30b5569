use Rattle.std.proofs.Common.{◌≡◌, ◌<◌, ◌+◌, ℕ, List, Bool, length}
use Rattle.std.specs.Prelude.{None, slice_index}
use Rattle.ae_base.specs.Mask.{Set, has}
use Rattle.ae_net.specs.Run.{IsRun}
use Rattle.fault_sim.specs.declared.words.TheConstants.{LANES}
use Rattle.fault_sim.specs.Lanes.{HasRun}
use Rattle.fault_sim.proofs.pass.write_gates.Given as goal

abbrev pub invariant-loop-i : goal.invariant-loop-i
invariant-loop-i v = record {
  len : length v.good ≡ length v.fn.good;
  seen : length v.seen ≡ length v.fn.seen;
  runs : (l : ℕ) (x : Set) (w : List Bool) → l < LANES → ((j : ℕ) → j < length v.net.inputs → has (slice_index v.fn.good j) l ≡ has x j) → IsRun v.net None x w → HasRun w l (length v.net.inputs + v.i) v.good;
}
