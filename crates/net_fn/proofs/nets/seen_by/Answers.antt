use Rattle.std.proofs.Common.{rules}
use Rattle.std.specs.Prelude.{slice_index}
use Rattle.std.proofs.lemmas.Option.{slice_get-get_or}
use Rattle.net_fn.proofs.Signals.{Seen-push}
use Rattle.net_fn.proofs.nets.seen_by.Goals as goal

pub loop-k-preserved : goal.loop-k-preserved
loop-k-preserved g c =
    rw c.in_ok-push.ensures.items
    (Seen-push (g.S.FnStore.functions c.args.store.now) c.args.fault c.args.readers c.args.read.now c.args.signals.now c.loop-k.refs.items _ c.seen.result c.loop-k.k c.loop-k.invariant
    (slice_get-get_or c.args.signals.now (slice_index c.args.read.now c.loop-k.k) (record { at = 0 }) (search rules))
    (λ f h. rw (← c.place_of-at.ensures) (c.seen.ensures.shows f h)) c.seen.ensures.live)
