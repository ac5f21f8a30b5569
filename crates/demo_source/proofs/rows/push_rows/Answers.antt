use Rattle.demo_source.proofs.Draws.{row_more}
use Rattle.demo_source.proofs.rows.push_rows.Goals as goal

pub loop-preserved : goal.loop-preserved
loop-preserved c =
    let step = row_more c.args.sizes.inputs c.args.sizes.outputs _ _ _ _ _ _ _ c.loop.invariant.state c.in_ok-push_row.ensures.state c.loop.invariant.text c.in_ok-push_row.ensures.text in
    record { text = step.0; state = step.1 }
