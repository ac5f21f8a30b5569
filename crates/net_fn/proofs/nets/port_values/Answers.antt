use Rattle.std.proofs.lemmas.Result.{IfOk-weaker}
use Rattle.ae_base.specs.Mask.{Set}
use Rattle.ae_net.specs.Network.{signals}
use Rattle.net_fn.proofs.Signals.{ports-shown}
use Rattle.net_fn.proofs.nets.port_values.Goals as goal

pub returns-clause-shows : goal.returns-clause-shows
returns-clause-shows g c =
    let one = λ (x : Set). c.one_run.ensures.one c.args.net.now c.args.fault x c.outputs.ensures.valid in
    IfOk-weaker c.seen_by.result _ _
    (λ refs ports.
    ports-shown (g.S.FnStore.functions c.args.store.now) c.args.net.now c.args.fault (signals c.args.net.now) c.outputs.result.now c.args.values.now refs.items (λ x. (one x).0) (λ x. (one x).1)
    (λ x. c.one_run.ensures.out c.args.net.now c.args.fault x (one x).0 c.outputs.ensures.valid (one x).1)
    c.outputs.ensures.outputs c.requires ports)
    c.seen_by.ensures
