use Rattle.net_fn.proofs.Listed.{Done}
use Rattle.net_fn.proofs.products.times_product.Given as goal

abbrev pub invariant-loop-k : goal.invariant-loop-k
invariant-loop-k g l = Done (g.S.FnStore.functions l.fn.store) (g.S.FnStore.functions l.store) l.refs l.fn.product l.fn.first l.all l.k
