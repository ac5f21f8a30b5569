use Rattle.ae_base.proofs.Halves.{one-high}
use Rattle.ae_base.proofs.mask.Mask.one.Goals as goal

pub returns-else-j-lt-HALF : goal.returns-else-j-lt-HALF
returns-else-j-lt-HALF c = one-high c.args.j c.if-j-lt-HALF.false c.requires
