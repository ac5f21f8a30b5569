use Rattle.std.proofs.Common.{◌≡◌, ◌<◌, length, rules, subst, sym}
use Rattle.std.specs.Prelude.{slice_get, Some}
use Rattle.std.proofs.lemmas.Option.{slice_get-get_or}
use Rattle.ae_net.specs.declared.net.Gate.{Gate}
use Rattle.net_fn.proofs.Signals.{Made-start, Made-push}
use Rattle.net_fn.proofs.nets.signal_values.Goals as goal

pub loop-i-init : goal.loop-i-init
loop-i-init g c = Made-start _ _ c.args.net.now c.args.fault c.in_ok-refs.refs.items c.input_values.ensures.keeps c.in_ok-refs.ensures.shows

pub loop-i-preserved : goal.loop-i-preserved
loop-i-preserved g c =
    let here : c.loop-i.i < length c.args.net.now.gates = search rules in
    let there : slice_get c.args.net.now.gates c.loop-i.i ≡ Some c.gate.result.now =
    subst (λ (gate : Gate). slice_get c.args.net.now.gates c.loop-i.i ≡ Some gate) (sym c.gate.ensures.gate) (slice_get-get_or c.args.net.now.gates c.loop-i.i _ here) in
    let len : c.len.result ≡ length c.loop-i.refs.items = search rules in
    rw c.in_ok-push.ensures.items
    (Made-push (g.S.FnStore.functions c.args.store.now) (g.S.FnStore.functions c.loop-i.store) (g.S.FnStore.functions c.gate_value.new.store) c.args.net.now c.args.fault c.loop-i.refs.items c.loop-i.i c.gate.result.now c.in_ok-value.value c.seen.result
    c.loop-i.invariant there
    (λ fs each. c.in_ok-value.ensures.shows fs (rw c.deref.ensures.value each)) c.gate_value.ensures.keeps
    (λ f h. rw (← len) (c.seen.ensures.shows f h)) c.seen.ensures.live)
