use Rattle.std.proofs.Common.{◌≡◌, length, rules, arith}
use Rattle.std.proofs.lemmas.Option.{slice_get-get_or}
use Rattle.net_fn.proofs.Listed.{Done-start, Done-step, Done-end, live_at}
use Rattle.net_fn.proofs.products.times_product.Goals as goal

pub loop-k-init : goal.loop-k-init
loop-k-init g c = Done-start _ c.args.refs.now c.args.product c.args.first (search rules) c.requires.first

pub times-requires-clause-r : goal.times-requires-clause-r
times-requires-clause-r g c =
    live_at (g.S.FnStore.functions c.args.store.now) (g.S.FnStore.functions c.loop-k.store) c.args.refs.now c.loop-k.k _ c.requires.live c.loop-k.invariant.keeps
    (slice_get-get_or c.args.refs.now c.loop-k.k (record { at = 0 }) (search rules))

pub loop-k-preserved : goal.loop-k-preserved
loop-k-preserved g c =
    Done-step (g.S.FnStore.functions c.args.store.now) (g.S.FnStore.functions c.loop-k.store) (g.S.FnStore.functions c.times.new.store) c.args.refs.now c.args.product c.args.first c.loop-k.all c.in_ok-all.all _
    c.loop-k.k (slice_get-get_or c.args.refs.now c.loop-k.k (record { at = 0 }) (search rules)) c.loop-k.invariant
    c.in_ok-all.ensures.shows c.in_ok-all.ensures.live c.in_ok-all.ensures.keeps

pub returns-clause-shows : goal.returns-clause-shows
returns-clause-shows g c =
    let all : c.loop-k.k ≡ length c.args.refs.now = omega arith in
    Done-end (g.S.FnStore.functions c.args.store.now) (g.S.FnStore.functions c.loop-k.store) c.args.refs.now c.args.product c.args.first c.loop-k.all c.loop-k.k (length c.args.refs.now)
    all c.requires.over c.loop-k.invariant
