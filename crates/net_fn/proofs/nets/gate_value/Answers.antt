use Rattle.std.proofs.Common.{cond, not}
use Rattle.std.proofs.lemmas.Result.{IfOk-weaker}
use Rattle.ae_net.specs.Run.{table}
use Rattle.fn_store.specs.Cubes.{some_holds}
use Rattle.net_fn.proofs.Kept.{Shows-same}
use Rattle.net_fn.proofs.Signals.{ones_of, rows-shown, table-rows}
use Rattle.net_fn.proofs.nets.gate_value.Goals as goal

pub returns-clause-shows : goal.returns-clause-shows
returns-clause-shows g c =
    let gate = c.args.gate.now in
    IfOk-weaker c.turned.result _ _
    (λ r step fs each.
    Shows-same (g.S.FnStore.functions c.turned.new.store) r (λ x. cond gate.on (some_holds gate.rows (ones_of c.args.fault fs c.args.i gate x)) (not (some_holds gate.rows (ones_of c.args.fault fs c.args.i gate x)))) (λ x. table gate (ones_of c.args.fault fs c.args.i gate x))
    (λ x. table-rows gate (ones_of c.args.fault fs c.args.i gate x))
    (step (λ x. some_holds gate.rows (ones_of c.args.fault fs c.args.i gate x))
    (rows-shown (g.S.FnStore.functions c.args.store.now) (g.S.FnStore.functions c.some_product.new.store) gate c.args.fault c.args.i c.args.signals.now c.deref.result.now c.as_slice.result.now c.as_slice-2.result.now fs c.in_ok-some.some
    c.as_slice.ensures c.as_slice-2.ensures (rw c.deref.ensures.value c.in_ok-pins.ensures) each c.in_ok-some.ensures.shows)))
    c.turned.ensures.shows
