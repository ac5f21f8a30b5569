use Rattle.std.proofs.Common.{arith}
use Rattle.grading.proofs.VectorsFew.{few_vectors}
use Rattle.grading.proofs.pair.read_pair.Goals as goal

pub returns-clause-few : goal.returns-clause-few
returns-clause-few c = omega (arith, few_vectors c.args.vec_bytes.now c.in_ok-file.file c.in_ok-file.ensures, c.requires.vec_short)
