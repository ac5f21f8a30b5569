use Rattle.std.proofs.Common.{◌∙◌, ap, sym}
use Rattle.ae_base.specs.Mask.{least}
use Rattle.ae_base.proofs.Halves.{least-low, least-high, least-neither}
use Rattle.ae_base.proofs.mask.Mask.least.Goals as goal

pub returns-then-low-ne0-clause-least : goal.returns-then-low-ne0-clause-least
returns-then-low-ne0-clause-least c = sym (sym (ap least c.self.view_is) ∙ least-low _ _ c.self.invariant.0 c.if-low-ne0.true)

pub returns-then-high-ne0-clause-least : goal.returns-then-high-ne0-clause-least
returns-then-high-ne0-clause-least c = sym (sym (ap least c.self.view_is) ∙ least-high _ _ c.self.invariant.1 c.if-low-ne0.false c.if-high-ne0.true)

pub returns-clause-least : goal.returns-clause-least
returns-clause-least c = sym (sym (ap least c.self.view_is) ∙ least-neither _ _ c.if-high-ne0.false c.if-low-ne0.false)
