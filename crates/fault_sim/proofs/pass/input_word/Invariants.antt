use Rattle.std.proofs.Common.{◌≡◌, ◌<◌, ◌≤◌, ℕ, false, length}
use Rattle.std.specs.Prelude.{slice_index}
use Rattle.ae_base.specs.Mask.{has}
use Rattle.fault_sim.specs.Marks.{is_marked}
use Rattle.fault_sim.proofs.pass.input_word.Given as goal

abbrev pub invariant-loop-l : goal.invariant-loop-l
invariant-loop-l v = record {
  len : length v.parts ≡ 8;
  done : (lane : ℕ) → lane < v.l → is_marked v.parts lane ≡ has (slice_index v.points lane) v.j;
  rest : (lane : ℕ) → v.l ≤ lane → is_marked v.parts lane ≡ false;
}
