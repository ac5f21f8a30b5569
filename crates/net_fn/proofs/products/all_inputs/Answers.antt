use Rattle.ae_base.specs.Mask.{has}
use Rattle.net_fn.proofs.References.{Shown-push}
use Rattle.net_fn.proofs.products.all_inputs.Goals as goal

pub loop-j-preserved : goal.loop-j-preserved
loop-j-preserved g c =
    rw c.in_ok-push.ensures.items
    (Shown-push (g.S.FnStore.functions c.args.store.now) (g.S.FnStore.functions c.loop-j.store) (g.S.FnStore.functions c.input.new.store) c.loop-j.refs.items c.in_ok-input.field-0 (λ j x. has x j) c.loop-j.j
    c.loop-j.invariant c.input.ensures.keeps c.in_ok-input.ensures.shows)
