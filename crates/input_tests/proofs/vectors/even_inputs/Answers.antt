use Rattle.std.proofs.Common.{arith}
use Rattle.ae_base.proofs.Sets.{same_set, has-both, has-xor}
use Rattle.input_tests.proofs.vectors.even_inputs.Goals as goal

pub returns-clause-even : goal.returns-clause-even
returns-clause-even c =
    same_set _ _ (λ k. simp (c.xor.ensures, c.both.ensures, has-xor, has-both, c.used_inputs-used.ensures, c.odd_inputs.ensures.odd, c.even_law.ensures.counted c.args.e.now c.odd_inputs.ensures.valid) (grind arith))
