use Rattle.std.proofs.Common.{ℕ, ◌||◌, refl, ap₂, sym, ◌∙◌}
use Rattle.std.specs.Prelude.{bit_or}
use Rattle.ae_base.specs.Mask.{has}
use Rattle.fault_sim.proofs.PartLanes.{op-lane, op-parts, or_fits}
use Rattle.fault_sim.proofs.WordLanes.{lane-or}
use Rattle.fault_sim.proofs.words.either.Goals as goal

pub invariant_of-result : goal.invariant_of-result
invariant_of-result c = op-parts (λ a b. bit_or a b) or_fits 8 c.a.inside.parts c.b.inside.parts c.a.invariant.0 c.b.invariant.0 c.a.invariant.1 c.b.invariant.1

pub returns : goal.returns
returns c l = op-lane (λ a b. bit_or a b) (λ a b. a || b) lane-or refl or_fits c.a.inside.parts c.b.inside.parts l (c.a.invariant.0 ∙ sym c.b.invariant.0) c.a.invariant.1 c.b.invariant.1 ∙ ap₂ (λ (x y : ℕ). has x l || has y l) c.a.view_is c.b.view_is
