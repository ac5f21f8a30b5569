use Rattle.net_fn.proofs.Listed.{Summed}
use Rattle.net_fn.proofs.products.product_by_product.Given as goal

abbrev pub invariant-loop-product : goal.invariant-loop-product
invariant-loop-product g l = Summed (g.S.FnStore.functions l.fn.store) (g.S.FnStore.functions l.store) l.refs l.products l.some l.product-index
