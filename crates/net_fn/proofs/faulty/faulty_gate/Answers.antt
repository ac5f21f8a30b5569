use Rattle.std.proofs.Common.{◌≡◌, ◌<◌, ◌+◌, ◌-◌, length, arith, ap, ◌∙◌, subst}
use Rattle.std.specs.Prelude.{None}
use Rattle.std.proofs.lemmas.Option.{slice_get-get_or}
use Rattle.ae_base.specs.Mask.{Set}
use Rattle.ae_net.specs.declared.net.Gate.{Gate}
use Rattle.ae_net.specs.Run.{value_of}
use Rattle.std.proofs.lemmas.Result.{IfOk-weaker}
use Rattle.fn_store.specs.Functions.{Shows}
use Rattle.net_fn.proofs.Alike.{at-next, next_function, taken-over}
use Rattle.net_fn.proofs.Signals.{runs-evaluation}
use Rattle.net_fn.proofs.faulty.faulty_gate.Goals as goal

pub returns-then-see_alike-clause-shows : goal.returns-then-see_alike-clause-shows
returns-then-see_alike-clause-shows g c i fs there each =
    let s = g.S.FnStore.functions c.args.store.now in
    let n = c.args.net.now in
    let k = length c.args.refs.now - length c.inputs.result.now in
    let one = λ (x : Set). c.one_run.ensures.one n None x c.inputs.ensures.valid in
    let here : length c.args.refs.now ≡ length n.inputs + k = omega (arith, ap length c.inputs.ensures.inputs, c.requires.inputs) in
    let below : k < length n.gates = omega (arith, here, c.requires.gates) in
    let within : length c.args.refs.now < length c.args.good.now = omega (arith, c.requires.gates, c.requires.good.count) in
    taken-over s n c.args.fault i k c.as_slice.result.now c.args.good.now c.args.refs.now _ c.see_alike.result fs (λ s x. value_of (one x).0 s)
    (λ f h. c.store_laws.ensures.agree s _ f h) c.requires.good (runs-evaluation n None (λ x. (one x).0) (λ x. (one x).1))
    (c.as_slice.ensures ∙ ap (λ (gate : Gate). gate.pins) c.gate-gate.ensures.gate) below here (slice_get-get_or c.args.good.now (length c.args.refs.now) (record { at = 0 }) within)
    c.see_alike.ensures c.if-see_alike.true there each

pub returns-else-see_alike-clause-shows : goal.returns-else-see_alike-clause-shows
returns-else-see_alike-clause-shows g c =
    let s = g.S.FnStore.functions c.gate_value.new.store in
    let n = c.args.net.now in
    let k = length c.args.refs.now - length c.inputs.result.now in
    let here : length c.args.refs.now ≡ length n.inputs + k = omega (arith, ap length c.inputs.ensures.inputs, c.requires.inputs) in
    IfOk-weaker c.gate_value.result _ _
    (λ r shows i fs there each. at-next s n c.args.fault i k c.args.refs.now r fs here there (subst (λ (gate : Gate). Shows s r (next_function c.args.fault fs k gate)) c.gate-gate.ensures.gate (shows fs each)))
    c.gate_value.ensures.shows

pub returns-then-see_alike-clause-live : goal.returns-then-see_alike-clause-live
returns-then-see_alike-clause-live g c =
    let within : length c.args.refs.now < length c.args.good.now = omega (arith, c.requires.gates, c.requires.good.count) in
    c.requires.good.live.each (length c.args.refs.now) _ (slice_get-get_or c.args.good.now (length c.args.refs.now) (record { at = 0 }) within)
