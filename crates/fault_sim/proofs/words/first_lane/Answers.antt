use Rattle.std.proofs.Common.{◌≡◌, ℕ, ap, sym, ◌∙◌, arith}
use Rattle.ae_base.specs.Mask.{has}
use Rattle.fault_sim.specs.Marks.{is_marked}
use Rattle.fault_sim.proofs.PartLanes.{joined-lane}
use Rattle.fault_sim.proofs.words.first_lane.Goals as goal

pub returns-then-lane-count : goal.returns-then-lane-count
returns-then-lane-count c =
    let lane : (l : ℕ) → has c.args.a l ≡ is_marked c.a.inside.parts l = λ l. ap (λ s. has s l) (sym c.a.view_is) ∙ joined-lane c.a.inside.parts l c.a.invariant.1 in
    (c.if-lane-count.true, lane c.in-Some.lane ∙ c.in-Some.ensures.taken.marked, λ k lt. lane k ∙ c.in-Some.ensures.taken.first k lt)

pub returns-else-lane-count : goal.returns-else-lane-count
returns-else-lane-count c l lt =
    let lane : (l : ℕ) → has c.args.a l ≡ is_marked c.a.inside.parts l = λ l. ap (λ s. has s l) (sym c.a.view_is) ∙ joined-lane c.a.inside.parts l c.a.invariant.1 in
    lane l ∙ c.in-Some.ensures.taken.first l (omega (arith, lt, c.if-lane-count.false))

pub returns-in-None : goal.returns-in-None
returns-in-None c l lt = ap (λ s. has s l) (sym c.a.view_is) ∙ joined-lane c.a.inside.parts l c.a.invariant.1 ∙ c.in-None.ensures.taken l
