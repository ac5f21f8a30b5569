use Rattle.std.specs.Prelude.{Some}
use Rattle.net_fn.proofs.Signals.{Made}
use Rattle.net_fn.proofs.faulty.faulty_signals.Given as goal

abbrev pub invariant-loop-i : goal.invariant-loop-i
invariant-loop-i g l = Made (g.S.FnStore.functions l.fn.store) (g.S.FnStore.functions l.store) l.net (Some l.fn.fault) l.refs.items l.i
