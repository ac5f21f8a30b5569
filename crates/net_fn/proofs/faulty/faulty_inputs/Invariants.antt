use Rattle.ae_base.specs.Mask.{has}
use Rattle.ae_net.specs.declared.net.Place.TheVariants.{Stem}
use Rattle.std.specs.Prelude.{Some}
use Rattle.ae_net.specs.Run.{seen}
use Rattle.net_fn.proofs.References.{Shown}
use Rattle.net_fn.proofs.faulty.faulty_inputs.Given as goal

abbrev pub invariant-loop-j : goal.invariant-loop-j
invariant-loop-j g l = Shown (g.S.FnStore.functions l.fn.store) (g.S.FnStore.functions l.store) l.refs.items (λ j x. seen (Some l.fault) (Stem j) (has x j)) l.j
