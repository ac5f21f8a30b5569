use Rattle.std.proofs.Common.{length, sym, subst, ◌∙◌, arith}
use Rattle.fault_sim.specs.Lanes.{IsGood, IsPass}
use Rattle.fault_sim.proofs.simulation.push_all.Goals as goal

pub loop-base-smaller : goal.loop-base-smaller
loop-base-smaller c = omega (arith, c.next_points-now.ensures.some, c.next_points-now.ensures.within)

pub loop-base-preserved : goal.loop-base-preserved
loop-base-preserved c =
    let n = c.args.net.now in
    let points = c.args.points.now in
    let words = c.write_good.new.good in
    let pass : IsPass n points c.loop-base.base (length c.next_points-now.result.now) words = λ l lt. subst (λ x. IsGood n x l words) (c.next_points-now.ensures.points l lt) (c.write_good.ensures.good l lt) in
    record {
      room = c.loop-base.invariant.room ∙ sym c.write_good.ensures.len;
      within = c.next_points-now.ensures.within;
      outs = c.in_ok-push_outs.ensures points c.next_points-now.ensures.within pass c.loop-base.invariant.outs;
    }
