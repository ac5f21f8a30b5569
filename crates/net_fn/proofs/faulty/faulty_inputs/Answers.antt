use Rattle.std.proofs.Common.{◌≡◌, ◌<◌, length, rules, arith}
use Rattle.std.specs.Prelude.{Some, None}
use Rattle.std.proofs.lemmas.Option.{slice_get-get_or}
use Rattle.ae_base.specs.Mask.{Set, has}
use Rattle.ae_net.specs.declared.net.Place.TheVariants.{Stem}
use Rattle.ae_net.specs.Run.{seen, value_of}
use Rattle.net_fn.proofs.Alike.{input-shown, Keeps-itself}
use Rattle.net_fn.proofs.References.{Shown-push}
use Rattle.net_fn.proofs.Signals.{inputs-shown, runs-evaluation}
use Rattle.net_fn.proofs.faulty.faulty_inputs.Goals as goal

pub loop-j-preserved : goal.loop-j-preserved
loop-j-preserved g c =
    let s = g.S.FnStore.functions c.args.store.now in
    let n = c.args.net.now in
    let one = λ (x : Set). c.one_run.ensures.one n None x c.inputs-j-end.ensures.valid in
    let below : c.loop-j.j < length n.inputs = search rules in
    let within : c.loop-j.j < length c.args.good.now = omega (arith, below, c.requires.count) in
    rw c.in_ok-push.ensures.items
    (Shown-push s s s c.loop-j.refs.items c.seen.result (λ j x. seen (Some c.args.fault) (Stem j) (has x j)) c.loop-j.j c.loop-j.invariant (Keeps-itself s)
    (c.seen.ensures.shows (λ x. has x c.loop-j.j)
    (input-shown s n c.args.good.now c.loop-j.j _ (λ s x. value_of (one x).0 s) (runs-evaluation n None (λ x. (one x).0) (λ x. (one x).1)) c.requires below (slice_get-get_or c.args.good.now c.loop-j.j (record { at = 0 }) within))))

pub returns : goal.returns
returns g c =
    let all : c.loop-j.j ≡ length c.args.net.now.inputs = search rules in
    inputs-shown (g.S.FnStore.functions c.args.store.now) (g.S.FnStore.functions c.args.store.now) c.args.net.now (Some c.args.fault) c.loop-j.refs.items c.loop-j.j all c.loop-j.invariant
