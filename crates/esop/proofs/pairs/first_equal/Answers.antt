use Rattle.std.proofs.Common.{◌≡◌, ◌-◌, ◌∙◌, true, sym, ap₂, arith, eq-eqb}
use Rattle.std.proofs.lemmas.List.{get_or_default}
use Rattle.ae_base.specs.Cube.{distance, whole}
use Rattle.esop.proofs.Steps.{equal_here, equal_nowhere}
use Rattle.esop.proofs.Steps.{at_distance}
use Rattle.esop.proofs.pairs.first_equal.Goals as goal

pub returns-then-distance-eq0-clause-pair : goal.returns-then-distance-eq0-clause-pair
returns-then-distance-eq0-clause-pair c =
    let cs = c.args.cubes.now in
    let j = c.loop-second.second in
    let here : at_distance 0 cs (j - 1, j) ≡ true =
    eq-eqb _ 0 (ap₂ distance (get_or_default cs (j - 1) whole _ (omega (arith, c.loop-second-test.true)) ∙ sym c.index-cubes-second.is)
    (get_or_default cs j whole _ c.loop-second-test.true ∙ sym c.index-cubes-second-in-loop-second.is) ∙ sym c.distance.ensures ∙ c.if-distance-eq0.true) in
    sym (equal_here cs c.requires j (omega (arith, c.loop-second.auto.second)) c.loop-second-test.true c.loop-second.invariant here)

pub returns-clause-pair : goal.returns-clause-pair
returns-clause-pair c = sym (equal_nowhere c.args.cubes.now c.requires (λ i l. c.loop-second.invariant i (omega (arith, l, c.loop-second-test.false))))
