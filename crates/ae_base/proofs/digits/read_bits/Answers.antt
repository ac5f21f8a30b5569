use Rattle.std.proofs.Common.{ap, sym, ◌∙◌, arith}
use Rattle.ae_base.specs.Mask.{has}
use Rattle.ae_base.proofs.ReadBack.{places_within}
use Rattle.ae_base.proofs.digits.read_bits.Goals as goal

pub returns-clause-below : goal.returns-clause-below
returns-clause-below c = λ j h. omega (arith, places_within 49 c.args.word.now j (sym (ap (λ s. has s j) c.places_of.ensures) ∙ h))
