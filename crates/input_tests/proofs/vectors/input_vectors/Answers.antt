use Rattle.input_tests.specs.Whole.{cascade_tests}
use Rattle.input_tests.proofs.vectors.input_vectors.Goals as goal

pub returns-clause-complete : goal.returns-clause-complete
unfolding cascade_tests
returns-clause-complete c = rw c.in_ok-list.ensures.vectors (λ names can. c.input_law.ensures.complete names c.args.e.now can)
