use Rattle.test_gen.proofs.InOrder.{least_passes}
use Rattle.test_gen.proofs.laws.order_law.Goals as goal

pub returns : goal.returns
returns c = least_passes
