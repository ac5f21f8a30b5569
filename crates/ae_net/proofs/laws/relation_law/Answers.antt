use Rattle.ae_net.proofs.Evaluated.{holds_at_each}
use Rattle.ae_net.proofs.laws.relation_law.Goals as goal

pub returns : goal.returns
returns g c = λ n d e v w valid kept. holds_at_each g.R.Relation.holds n d e v w valid kept
