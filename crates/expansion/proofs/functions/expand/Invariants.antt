use Rattle.expansion.proofs.Listed.{Listed}
use Rattle.expansion.proofs.functions.expand.Given as goal

abbrev pub invariant-loop-r : goal.invariant-loop-r
invariant-loop-r g l = Listed (g.S.FnStore.functions l.store) l.refs l.limit l.r-index l.outs l.left
