use Rattle.ae_net.proofs.Evaluated as evaluated
use Rattle.ae_net.proofs.laws.one_evaluation.Goals as goal

pub returns : goal.returns
returns g c = λ d n valid local. evaluated.one_evaluation d n valid local
