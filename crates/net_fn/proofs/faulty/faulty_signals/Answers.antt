use Rattle.std.proofs.Common.{◌≡◌, ◌<◌, length, rules}
use Rattle.std.specs.Prelude.{Some, None, slice_get}
use Rattle.std.proofs.lemmas.Option.{slice_get-get_or}
use Rattle.ae_net.specs.Network.{signals, gate_at}
use Rattle.net_fn.proofs.Alike.{ShowSignals-kept}
use Rattle.net_fn.proofs.Signals.{Made-start, Made-push}
use Rattle.net_fn.proofs.faulty.faulty_signals.Goals as goal

pub loop-i-init : goal.loop-i-init
loop-i-init g c = Made-start _ _ c.args.net.now (Some c.args.fault) c.in_ok-refs.refs.items (search rules) c.in_ok-refs.ensures

pub faulty_gate-requires-clause-good : goal.faulty_gate-requires-clause-good
faulty_gate-requires-clause-good g c =
    ShowSignals-kept (g.S.FnStore.functions c.args.store.now) (g.S.FnStore.functions c.loop-i.store) c.args.net.now None (signals c.args.net.now) c.args.good.now c.loop-i.invariant.keeps c.requires

pub loop-i-preserved : goal.loop-i-preserved
loop-i-preserved g c =
    let n = c.args.net.now in
    let here : c.loop-i.i < length n.gates = search rules in
    let there : slice_get n.gates c.loop-i.i ≡ Some (gate_at n c.loop-i.i) = slice_get-get_or n.gates c.loop-i.i _ here in
    let len : c.len.result ≡ length c.loop-i.refs.items = search rules in
    rw c.in_ok-push.ensures.items
    (Made-push (g.S.FnStore.functions c.args.store.now) (g.S.FnStore.functions c.loop-i.store) (g.S.FnStore.functions c.faulty_gate.new.store) n (Some c.args.fault) c.loop-i.refs.items c.loop-i.i (gate_at n c.loop-i.i) c.in_ok-value.value c.seen.result
    c.loop-i.invariant there
    (λ fs each. c.in_ok-value.ensures.shows c.loop-i.i fs (rw c.deref.ensures.value c.loop-i.invariant.signals.count) (rw c.deref.ensures.value each)) c.faulty_gate.ensures.keeps
    (λ f h. rw (← len) (c.seen.ensures.shows f h)) c.seen.ensures.live)
