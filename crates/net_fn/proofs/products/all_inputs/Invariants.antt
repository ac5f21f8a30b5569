use Rattle.ae_base.specs.Mask.{has}
use Rattle.net_fn.proofs.References.{Shown}
use Rattle.net_fn.proofs.products.all_inputs.Given as goal

abbrev pub invariant-loop-j : goal.invariant-loop-j
invariant-loop-j g l = Shown (g.S.FnStore.functions l.fn.store) (g.S.FnStore.functions l.store) l.refs.items (λ j x. has x j) l.j
