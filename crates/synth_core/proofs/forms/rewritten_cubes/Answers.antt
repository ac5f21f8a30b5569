use Rattle.std.proofs.Common.{◌∙◌}
use Rattle.std.specs.Prelude.{IfOk}
use Rattle.synth_core.specs.Steps.{AreRewritten}
use Rattle.synth_core.proofs.Lines.{are_rewritten, rewritten_result}
use Rattle.synth_core.proofs.forms.rewritten_cubes.Goals as goal

pub returns : goal.returns
returns c =
    let e = c.args.e.now in
    let made = c.in_ok-esop.esop in
    let x = c.exorlink.ensures in
    rewritten_result e made c.in_ok-esop.ensures.lists c.in_ok-esop.ensures.value c.in_ok-esop.ensures.count c.exorlink.result x.lists x.value x.count x.settled
