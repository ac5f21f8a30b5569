use Rattle.net_fn.proofs.Alike.{Alike}
use Rattle.net_fn.proofs.faulty.see_alike.Given as goal

abbrev pub invariant-loop-k : goal.invariant-loop-k
invariant-loop-k g l = Alike (g.S.FnStore.functions l.store) l.fault l.fn.i l.pins l.good l.refs l.k
