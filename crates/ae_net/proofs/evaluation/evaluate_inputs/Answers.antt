use Rattle.std.proofs.Common.{◌≡◌, length, ap, arith}
use Rattle.ae_net.proofs.Evaluated.{input_kept, inputs_kept}
use Rattle.ae_net.proofs.evaluation.evaluate_inputs.Goals as goal

pub loop-j-preserved : goal.loop-j-preserved
loop-j-preserved g c =
    input_kept g.V.Values.told (g.V.Values.domain c.args.values.now) c.args.net.now c.loop-j.cells c.loop-j.j c.input-value.result c.seen.result
    (omega (arith, c.requires, c.loop-j-test.true, ap length c.inputs-j-end.ensures.inputs, c.loop-j.auto.cells)) c.input-value.ensures c.seen.ensures c.loop-j.invariant

pub returns : goal.returns
returns g c =
    let all : c.loop-j.j ≡ length c.args.net.now.inputs = omega (arith, c.loop-j.auto.j-end, c.loop-j-test.false, ap length c.inputs-j-end.ensures.inputs) in
    inputs_kept g.V.Values.told (g.V.Values.domain c.args.values.now) c.args.net.now c.loop-j.cells c.loop-j.j all c.loop-j.invariant
