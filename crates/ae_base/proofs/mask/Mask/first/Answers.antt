use Rattle.std.proofs.Common.{◌∙◌, ap₂}
use Rattle.ae_base.specs.Halves.{joined}
use Rattle.ae_base.specs.Mask.{first}
use Rattle.ae_base.proofs.Halves.{first-high}
use Rattle.ae_base.proofs.mask.Mask.first.Goals as goal

pub returns-else-n-lt-HALF : goal.returns-else-n-lt-HALF
unfolding first
returns-else-n-lt-HALF c = ap₂ joined c.ones-else-n-lt-HALF-2.ensures c.ones-else-n-lt-HALF.ensures ∙ first-high c.args.n c.if-n-lt-HALF.false
