use Rattle.std.proofs.Common.{ap, sym, ◌∙◌}
use Rattle.ae_base.specs.Mask.{has}
use Rattle.ae_base.proofs.ReadBack.{places_apart}
use Rattle.ae_base.proofs.digits.cube_of.Goals as goal

pub invariant_of-result : goal.invariant_of-result
invariant_of-result c = λ j h. ap (λ s. has s j) c.places_of-2.ensures ∙ places_apart c.args.word.now j (sym (ap (λ s. has s j) c.places_of.ensures) ∙ h)
