use Rattle.std.proofs.Common.{[], ◌∷◌, ◌++◌, ◌∙◌, ap}
use Rattle.ae_base.proofs.Written.{pushed, cube_text_more}
use Rattle.vec_text.proofs.text.push_cube.Goals as goal

pub loop-j-preserved : goal.loop-j-preserved
loop-j-preserved c =
    pushed _ _ _ _ _ _ c.loop-j.invariant
    (c.in_ok-push.ensures.items ∙ ap (λ b. c.loop-j.out.items ++ b ∷ []) c.literal_text.ensures)
    (cube_text_more c.loop-j.j c.args.cube)
