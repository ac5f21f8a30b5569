use Rattle.std.proofs.Common.{[], ◌∷◌, ◌++◌, ◌∙◌, ap}
use Rattle.demo_source.specs.Demo.{output_char}
use Rattle.demo_source.proofs.Draws.{draw_more}
use Rattle.demo_source.proofs.rows.push_outputs.Goals as goal

pub loop-preserved : goal.loop-preserved
loop-preserved c =
    let step = draw_more output_char _ _ _ _ _ _ _ _ c.loop.invariant.state c.draw.ensures.state c.draw.ensures.drawn c.loop.invariant.text (c.in_ok-push.ensures.items ∙ ap (λ b. c.loop.out.items ++ b ∷ []) c.output_char.ensures) in
    record { text = step.0; state = step.1 }
