use Rattle.std.proofs.Common.{ℕ, refl, ap₂, sym, ◌∙◌}
use Rattle.std.specs.Prelude.{bit_xor}
use Rattle.ae_base.specs.Mask.{differ, has}
use Rattle.fault_sim.proofs.PartLanes.{op-lane, op-parts, xor_fits}
use Rattle.fault_sim.proofs.WordLanes.{lane-xor}
use Rattle.fault_sim.proofs.words.apart.Goals as goal

pub invariant_of-result : goal.invariant_of-result
invariant_of-result c = op-parts (λ a b. bit_xor a b) xor_fits 8 c.a.inside.parts c.b.inside.parts c.a.invariant.0 c.b.invariant.0 c.a.invariant.1 c.b.invariant.1

pub returns : goal.returns
returns c l = op-lane (λ a b. bit_xor a b) differ lane-xor refl xor_fits c.a.inside.parts c.b.inside.parts l (c.a.invariant.0 ∙ sym c.b.invariant.0) c.a.invariant.1 c.b.invariant.1 ∙ ap₂ (λ (x y : ℕ). differ (has x l) (has y l)) c.a.view_is c.b.view_is
