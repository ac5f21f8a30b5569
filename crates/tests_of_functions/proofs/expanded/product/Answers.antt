use Rattle.tests_of_functions.proofs.Cubes.{over}
use Rattle.tests_of_functions.proofs.expanded.product.Goals as goal

pub invariant_of-result : goal.invariant_of-result
invariant_of-result c = (over c.args.n _ _ _ _ _ _ _ c.first-all.ensures c.both-pos.ensures c.both-neg.ensures c.both.ensures c.xor.ensures).0

pub returns : goal.returns
returns c = over c.args.n _ _ _ _ _ _ _ c.first-all.ensures c.both-pos.ensures c.both-neg.ensures c.both.ensures c.xor.ensures
