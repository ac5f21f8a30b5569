use Rattle.std.proofs.Common.{◌≡◌, length, refl, subst, ◌∙◌, arith}
use Rattle.fault_sim.specs.Lanes.{AreFirstBelow, IsGood, IsPass}
use Rattle.fault_sim.proofs.search.try_passes.Goals as goal

pub try_faults-requires-clause-few : goal.try_faults-requires-clause-few
try_faults-requires-clause-few c = omega (arith, c.next_points-now.ensures.within, c.requires.few)

pub loop-base-smaller : goal.loop-base-smaller
loop-base-smaller c = omega (arith, c.next_points-now.ensures.some, c.next_points-now.ensures.within)

pub loop-base-preserved : goal.loop-base-preserved
loop-base-preserved c =
    let n = c.args.net.now in
    let points = c.args.points.now in
    let base = c.loop-base.base in
    let now = c.next_points-now.result.now in
    let good = c.begin_pass.new.bench.good.items in
    let pass : IsPass n points base (length now) good = λ l lt. subst (λ x. IsGood n x l good) (c.next_points-now.ensures.points l lt) (c.begin_pass.ensures.pass l lt) in
    record {
      bench = c.in_ok-try_faults.ensures.bench;
      all = c.in_ok-try_faults.ensures.all;
      within = c.next_points-now.ensures.within;
      len = c.in_ok-try_faults.ensures.len ∙ c.loop-base.invariant.len;
      first = c.in_ok-try_faults.ensures.first points pass c.loop-base.invariant.first;
    }

pub returns-clause-first : goal.returns-clause-first
returns-clause-first c =
    let end : c.loop-base.base ≡ length c.args.points.now = omega (arith, c.loop-base-test.false, c.loop-base.invariant.within) in
    subst (λ b. AreFirstBelow c.args.net.now c.args.points.now b c.args.list.now c.loop-base.found 0 (length c.args.list.now)) end c.loop-base.invariant.first
