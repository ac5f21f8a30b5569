use Rattle.std.proofs.Common.{◌∙◌, ap, sym}
use Rattle.polarity.specs.Draws.{after_draws}
use Rattle.demo_source.proofs.Draws.{draws_on}
use Rattle.demo_source.proofs.rows.push_row.Goals as goal

pub returns-clause-state : goal.returns-clause-state
returns-clause-state c =
    c.in_ok-push_outputs.ensures.state ∙ ap (after_draws c.args.sizes.outputs) c.in_ok-push_inputs.ensures.state
    ∙ sym (draws_on c.args.sizes.inputs c.args.sizes.outputs c.args.generator.now)
