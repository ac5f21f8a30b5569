use Rattle.fn_store.proofs.Replayed.{Replayed}
use Rattle.fn_store.proofs.operations.replay.Given as goal

abbrev pub invariant-loop-op : goal.invariant-loop-op
invariant-loop-op g l = Replayed (g.S.FnStore.functions l.fn.store) (g.S.FnStore.functions l.store) l.list l.refs.items l.op-index
