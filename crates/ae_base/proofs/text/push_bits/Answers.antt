use Rattle.std.proofs.Common.{[], ◌∷◌, ◌++◌, ◌∙◌, ap}
use Rattle.ae_base.specs.Text.{digit}
use Rattle.ae_base.proofs.Written.{pushed, bits_more}
use Rattle.ae_base.proofs.text.push_bits.Goals as goal

pub loop-j-preserved : goal.loop-j-preserved
loop-j-preserved c =
    pushed _ _ _ _ _ _ c.loop-j.invariant
    (c.in_ok-push.ensures.items ∙ ap (λ b. c.loop-j.out.items ++ b ∷ []) (c.digit.ensures ∙ ap digit c.has.ensures))
    (bits_more c.loop-j.j c.args.bits)
