use Rattle.std.proofs.Common.{◌∙◌, ap, eqb}
use Rattle.ae_base.specs.Mask.{empty}
use Rattle.ae_base.proofs.Members.{zero_by_len}
use Rattle.ae_base.proofs.mask.Mask.is_empty.Goals as goal

pub returns-clause-len : goal.returns-clause-len
unfolding empty
returns-clause-len c = c.eq.ensures ∙ ap (eqb _) c.empty.ensures ∙ zero_by_len _
