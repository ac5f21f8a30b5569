use Rattle.std.proofs.Common.{ap, ◌∙◌}
use Rattle.input_tests.proofs.CodeLemmas.{next, put_new}
use Rattle.input_tests.proofs.complete.push_others.Goals as goal

pub loop-point-preserved : goal.loop-point-preserved
loop-point-preserved c =
    next c.args.list.now.items c.args.points.now c.loop-point.list.items c.push_new.new.list.items c.loop-point.point-index c.point-item.result
    c.requires c.loop-point-test.true c.loop-point.invariant (c.in_ok-push_new.ensures.ok ∙ ap (put_new c.loop-point.list.items) c.point-item.is)
