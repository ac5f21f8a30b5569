use Rattle.ae_base.proofs.Halves.{joined_lt}
use Rattle.ae_base.proofs.Members.{members-within}
use Rattle.ae_base.proofs.mask.Mask.members.Goals as goal

pub returns-clause-below : goal.returns-clause-below
returns-clause-below c = members-within 256 _ (joined_lt _ _ c.self.invariant.1 c.self.invariant.0)
