use Rattle.net_fn.specs.Seen.{ShowSeen}
use Rattle.net_fn.proofs.nets.seen_by.Given as goal

abbrev pub invariant-loop-k : goal.invariant-loop-k
invariant-loop-k g l = ShowSeen (g.S.FnStore.functions l.store) l.fault l.readers l.read l.signals l.k l.refs.items
