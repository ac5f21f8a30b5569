use Rattle.std.proofs.Common.{◌<◌, length, rules, arith}
use Rattle.std.specs.Prelude.{slice_index}
use Rattle.std.proofs.lemmas.Option.{slice_get-get_or}
use Rattle.net_fn.proofs.Alike.{Alike-step, apart-at, pin-compared}
use Rattle.net_fn.proofs.faulty.see_alike.Goals as goal

pub returns-then-not-same : goal.returns-then-not-same
returns-then-not-same g c fs gs shown-refs shown-good =
    let pin = slice_index c.args.pins.now c.loop-k.k in
    let in_refs : pin < length c.args.refs.now = search rules in
    let in_good : pin < length c.args.good.now = omega (arith, in_refs, c.requires.more) in
    apart-at (g.S.FnStore.functions c.args.store.now).polarity.n c.args.fault c.args.i c.args.pins.now fs gs c.loop-k.k c.same.result c.loop-k-test.true c.if-not-same.true
    (pin-compared (g.S.FnStore.functions c.args.store.now) c.args.fault c.args.i c.args.pins.now c.args.good.now c.args.refs.now c.loop-k.k _ _ c.seen-value.result c.same.result
    (slice_get-get_or c.args.refs.now pin (record { at = 0 }) in_refs) (slice_get-get_or c.args.good.now pin (record { at = 0 }) in_good) c.seen-value.ensures.shows c.same.ensures fs gs shown-refs shown-good)

pub loop-k-preserved : goal.loop-k-preserved
loop-k-preserved g c =
    let pin = slice_index c.args.pins.now c.loop-k.k in
    let in_refs : pin < length c.args.refs.now = search rules in
    let in_good : pin < length c.args.good.now = omega (arith, in_refs, c.requires.more) in
    Alike-step (g.S.FnStore.functions c.args.store.now) c.args.fault c.args.i c.args.pins.now c.args.good.now c.args.refs.now c.loop-k.k c.loop-k.invariant
    (λ fs gs shown-refs shown-good.
    (pin-compared (g.S.FnStore.functions c.args.store.now) c.args.fault c.args.i c.args.pins.now c.args.good.now c.args.refs.now c.loop-k.k _ _ c.seen-value.result c.same.result
    (slice_get-get_or c.args.refs.now pin (record { at = 0 }) in_refs) (slice_get-get_or c.args.good.now pin (record { at = 0 }) in_good) c.seen-value.ensures.shows c.same.ensures fs gs shown-refs shown-good).0 c.if-not-same.false)
