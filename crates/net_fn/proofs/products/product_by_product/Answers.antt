use Rattle.std.proofs.Common.{◌≡◌, length, rules, arith}
use Rattle.net_fn.proofs.Listed.{Summed-step, Summed-end}
use Rattle.net_fn.proofs.products.product_by_product.Goals as goal

pub loop-product-preserved : goal.loop-product-preserved
loop-product-preserved g c =
    Summed-step (g.S.FnStore.functions c.args.store.now) (g.S.FnStore.functions c.loop-product.store) (g.S.FnStore.functions c.or_product.new.store) c.args.refs.now c.args.products.now
    c.loop-product.some c.in_ok-some.some c.product-item.result c.loop-product.product-index (search rules) (search rules) c.loop-product.invariant
    c.in_ok-some.ensures.shows c.in_ok-some.ensures.live c.in_ok-some.ensures.keeps

pub returns-clause-shows : goal.returns-clause-shows
returns-clause-shows g c =
    let all : c.loop-product.product-index ≡ length c.args.products.now = omega arith in
    Summed-end (g.S.FnStore.functions c.args.store.now) (g.S.FnStore.functions c.loop-product.store) c.args.refs.now c.args.products.now c.loop-product.some c.loop-product.product-index all c.loop-product.invariant
