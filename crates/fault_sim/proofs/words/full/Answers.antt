use Rattle.std.proofs.Common.{ap, sym, ◌∙◌, arith}
use Rattle.ae_base.specs.Mask.{has}
use Rattle.fault_sim.proofs.PartLanes.{same-lane}
use Rattle.fault_sim.proofs.WordLanes.{lane-ones, lane-zero}
use Rattle.fault_sim.proofs.words.full.Goals as goal
use Rattle.fault_sim.proofs.words.full.Goals.{then-value, else-value}

pub returns : goal.returns
returns c l lt =
    elim c.if-value.branch [
      | then-value w ↦ same-lane 8 c.if-value.result l c.args.value (omega (arith, w.result-is)) lt (λ k h. ap (λ p. has p k) w.result-is ∙ lane-ones k h ∙ sym w.if-value.true)
      | else-value w ↦ same-lane 8 c.if-value.result l c.args.value (omega (arith, w.result-is)) lt (λ k h. ap (λ p. has p k) w.result-is ∙ lane-zero k ∙ sym w.if-value.false)
    ]
