use Rattle.std.proofs.Common.{◌&&◌, ◌∙◌, ap₂, lt_of_le_of_lt}
use Rattle.std.proofs.lemmas.Nat.{and_le_l}
use Rattle.ae_base.specs.Mask.{both}
use Rattle.ae_base.proofs.Sets.{has-both}
use Rattle.ae_base.proofs.Halves.{joined_op}
use Rattle.ae_base.proofs.mask.Mask.both.Goals as goal

pub returns : goal.returns
unfolding both
returns c = joined_op both ◌&&◌ has-both _ _ _ _ c.self.invariant.0 c.other.invariant.0 (lt_of_le_of_lt (and_le_l _ _) c.self.invariant.0) ∙ ap₂ both c.self.view_is c.other.view_is
