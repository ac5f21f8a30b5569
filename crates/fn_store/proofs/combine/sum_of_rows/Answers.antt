use Rattle.std.proofs.Common.{◌≡◌, List, length, rules, arith, sym, subst}
use Rattle.ae_base.specs.Mask.{Set}
use Rattle.fn_store.proofs.Rows.{Rows, Rows-start, Rows-step, Rows-end}
use Rattle.fn_store.proofs.combine.sum_of_rows.Goals as goal

pub loop-t-init : goal.loop-t-init
loop-t-init c = Rows-start c.args.a.now c.args.b.now _ c.new-rows.ensures.items

pub loop-t-preserved : goal.loop-t-preserved
loop-t-preserved c =
    Rows-step c.args.a.now c.args.b.now c.deref.result.now _ c.loop-t.t-index c.t-item.result (search rules) (search rules)
    (subst (λ (rows : List Set). Rows c.args.a.now c.args.b.now c.loop-t.t-index rows) (sym c.deref.ensures.value) c.loop-t.invariant) c.in_ok-rows.ensures

pub returns : goal.returns
returns c =
    let e : c.loop-t.t-index ≡ length c.args.a.now = omega arith in
    Rows-end c.args.a.now c.args.b.now c.loop-t.rows.items c.loop-t.t-index e c.loop-t.invariant
