use Rattle.std.proofs.Common.{get_or}
use Rattle.std.proofs.lemmas.Option.{slice_get-get_or}
use Rattle.fn_store.specs.declared.operations.Op.TheVariants.{Literal}
use Rattle.fn_store.proofs.Replayed.{Replayed-push, Replayed-end}
use Rattle.fn_store.proofs.operations.replay.Goals as goal

pub loop-op-preserved : goal.loop-op-preserved
loop-op-preserved g c =
    let l = c.loop-op in
    let ops = c.args.list.now in
    rw c.in_ok-push.ensures.items
    (Replayed-push (g.S.FnStore.functions c.args.store.now) (g.S.FnStore.functions l.store) (g.S.FnStore.functions c.apply.new.store) ops l.refs.items l.op-index c.in_ok-r.r (get_or ops l.op-index (Literal 0))
    c.requires l.invariant (slice_get-get_or ops l.op-index (Literal 0) c.loop-op-test.true) c.apply.ensures.keeps (rw c.deref.ensures.value at c.in_ok-r.ensures.shows))

pub returns-clause-results : goal.returns-clause-results
returns-clause-results g c = Replayed-end (g.S.FnStore.functions c.args.store.now) (g.S.FnStore.functions c.loop-op.store) c.args.list.now c.loop-op.refs.items c.loop-op.op-index c.loop-op-test.false c.loop-op.auto.op-index-end c.loop-op.invariant
