use Rattle.std.proofs.Common.{◌≤◌, ap, arith, length}
use Rattle.std.proofs.Math.Nat.{min-le_left, min-le_right}
use Rattle.fault_sim.proofs.Beginning.{begun-all, begun-at_rest, marks-down}
use Rattle.fault_sim.proofs.Cones.{rest-marks}
use Rattle.fault_sim.proofs.cone.begin.Goals as goal

pub loop-e-init : goal.loop-e-init
loop-e-init c = record {
  cone = c.requires.cone;
  marks = rest-marks c.args.net.now c.args.good.now c.args.cone.now _ c.requires.rest;
  within = omega (arith, ap length c.gates-start.ensures.gates);
  begun = begun-at_rest c.args.net.now c.args.held.now c.args.good.now c.args.cone.now c.requires.held c.requires.rest;
}

pub loop-e-preserved : goal.loop-e-preserved
loop-e-preserved c =
    let less : c.min-start.result ≤ c.loop-e.start = omega (arith, c.min-start.ensures, min-le_left c.loop-e.start c.begin_one-at.result) in
    let most : c.min-start.result ≤ c.begin_one-at.result = omega (arith, c.min-start.ensures, min-le_right c.loop-e.start c.begin_one-at.result) in record {
      cone = c.begin_one-at.ensures.cone;
      marks = c.begin_one-at.ensures.marks c.min-start.result most (marks-down c.args.net.now c.loop-e.cone c.loop-e.start c.min-start.result less c.loop-e.invariant.marks);
      within = omega (arith, less, c.loop-e.invariant.within);
      begun = c.begin_one-at.ensures.begun c.loop-e.invariant.begun;
    }

pub returns-clause-spread : goal.returns-clause-spread
returns-clause-spread c =
    begun-all c.args.net.now c.args.held.now c.args.good.now c.loop-e.cone c.loop-e.e c.loop-e.start c.valid_law.ensures c.requires.held (omega (arith, c.loop-e-test.false, c.loop-e.auto.e-end, c.len-e-end.ensures)) c.loop-e.invariant.marks c.loop-e.invariant.within c.loop-e.invariant.begun
