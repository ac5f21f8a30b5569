use Rattle.std.proofs.Common.{◌≡◌, ◌<◌, length, ap, sym, subst, arith}
use Rattle.std.specs.Prelude.{Some, slice_get}
use Rattle.std.proofs.lemmas.Option.{slice_get-get_or}
use Rattle.ae_net.proofs.Evaluated.{gate_kept, gates_kept}
use Rattle.ae_net.proofs.evaluation.evaluate_gates.Goals as goal

pub loop-i-preserved : goal.loop-i-preserved
loop-i-preserved g c =
    let n = c.args.net.now in
    let here : c.loop-i.i < length n.gates = omega (arith, c.loop-i-test.true, ap length c.gates-i-end.ensures.gates) in
    let there : slice_get n.gates c.loop-i.i ≡ Some c.gate.result.now = subst (λ gate. slice_get n.gates c.loop-i.i ≡ Some gate) (sym c.gate.ensures.gate) (slice_get-get_or n.gates c.loop-i.i _ here) in
    gate_kept g.V.Values.told (g.V.Values.domain c.args.values.now) n c.loop-i.cells c.loop-i.i (length c.inputs-first.result.now) c.gate.result.now c.gate-value.result c.seen.result
    c.inputs-first.ensures.valid (ap length c.inputs-first.ensures.inputs) there (omega (arith, c.requires.room, c.loop-i.auto.cells)) c.gate-value.ensures c.seen.ensures c.loop-i.invariant

pub returns : goal.returns
returns g c =
    gates_kept g.V.Values.told (g.V.Values.domain c.args.values.now) c.args.net.now c.loop-i.cells c.loop-i.i (length c.inputs-first.result.now) (ap length c.inputs-first.ensures.inputs)
    (omega (arith, c.loop-i.auto.i-end, c.loop-i-test.false, ap length c.gates-i-end.ensures.gates)) c.loop-i.invariant
