use Rattle.std.proofs.Common.{◌∙◌, sym}
use Rattle.esop.specs.Rewriting.{next_list}
use Rattle.esop.proofs.Steps.{falls, is_step, ordered_on, rewritten_on, rewritten_stays, taken_on, taken_off}
use Rattle.esop.proofs.rewriting.rewrite.Goals as goal

pub steps-smaller : goal.steps-smaller
steps-smaller c = falls _ _ (is_step c.steps.settled.items c.take_step.new.cubes.items (taken_on (next_list c.steps.settled.items) c.steps.settled.items c.take_step.new.cubes.items _ c.in_ok-take_step.ensures c.if-branch.true))

pub steps-preserved : goal.steps-preserved
steps-preserved c =
    let on = taken_on (next_list c.steps.settled.items) c.steps.settled.items c.take_step.new.cubes.items _ c.in_ok-take_step.ensures c.if-branch.true in
    (rewritten_on c.steps.settled.items c.take_step.new.cubes.items on ∙ c.steps.invariant.0, ordered_on c.steps.settled.items c.take_step.new.cubes.items on c.steps.invariant.1)

pub returns : goal.returns
returns c =
    let off = taken_off (next_list c.steps.settled.items) c.steps.settled.items c.take_step.new.cubes.items _ c.in_ok-take_step.ensures c.if-branch.false in
    off.1 ∙ sym (rewritten_stays c.steps.settled.items off.0) ∙ c.steps.invariant.0
