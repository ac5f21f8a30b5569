use Rattle.std.proofs.Common.{refl, arith}
use Rattle.fault_sim.proofs.MarkWords.{no_marks}
use Rattle.fault_sim.proofs.pass.input_word.Goals as goal

pub loop-l-init : goal.loop-l-init
loop-l-init c = record {
  len = refl;
  done = λ lane lt. absurd (omega (arith, lt));
  rest = λ lane from. no_marks _ 8 refl lane;
}
