use Rattle.std.proofs.Common.{not, ap, ◌∙◌, arith}
use Rattle.ae_base.specs.Mask.{has}
use Rattle.fault_sim.proofs.PartLanes.{not-lane, not-parts}
use Rattle.fault_sim.proofs.words.complement.Goals as goal

pub invariant_of-result : goal.invariant_of-result
invariant_of-result c = not-parts 8 c.a.inside.parts c.a.invariant.0

pub returns : goal.returns
returns c l lt = not-lane c.a.inside.parts l (omega (arith, lt, c.a.invariant.0)) c.a.invariant.1 ∙ ap (λ x. not (has x l)) c.a.view_is
