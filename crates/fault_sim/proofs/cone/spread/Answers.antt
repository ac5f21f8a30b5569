use Rattle.std.proofs.Common.{◌≡◌, refl, ap, sym, subst, ◌∙◌, arith}
use Rattle.std.proofs.lemmas.Bool.{false≢true}
use Rattle.fault_sim.specs.Sites.{fault_in}
use Rattle.fault_sim.specs.Marks.{IsFirstTaken, is_marked}
use Rattle.fault_sim.proofs.Cones.{advanced, all-faulty}
use Rattle.fault_sim.proofs.Holding.{refilled}
use Rattle.fault_sim.proofs.cone.spread.Goals as goal

pub gates-preserved : goal.gates-preserved
gates-preserved c =
    let n = c.args.net.now in
    let before = c.gates.cone in
    let i = c.in-Some.i in
    let marks : c.as_mut_slice.result.now ≡ before.marked.items = c.as_mut_slice.ensures.value in
    let taken : IsFirstTaken before.marked.items c.take_first.new.marks i = subst (λ ms. IsFirstTaken ms c.take_first.new.marks i) marks c.in-Some.ensures.taken in
    let after = refilled before.marked c.take_first.new.marks (omega (arith, c.take_first.ensures.len, c.as_mut_slice.ensures.len, before.marked.ok.0)) in
    let at = c.gates.invariant.marks.marked i taken.marked in
    record {
      cone = c.visit.ensures.cone;
      marks = c.visit.ensures.marks;
      from = omega (arith, c.gates.invariant.from, at.0);
      spread = c.visit.ensures.spread (advanced n (fault_in c.args.held.now) c.args.good.now before _ c.gates.next i c.valid_law.ensures at.0 at.1 (subst (λ ms. IsFirstTaken before.marked.items ms i) (sym after) taken) refl refl c.gates.invariant.spread);
    }

pub returns-clause-marks : goal.returns-clause-marks
returns-clause-marks c =
    let after = refilled c.gates.cone.marked c.take_first.new.marks (omega (arith, c.take_first.ensures.len, c.as_mut_slice.ensures.len, c.gates.cone.marked.ok.0)) in record {
      marked = λ k set. absurd (false≢true (sym (c.in_default.ensures.taken k) ∙ ap (λ marks. is_marked marks k) (sym (after ∙ c.in_default.ensures.none)) ∙ set));
      changed = c.gates.invariant.marks.changed;
    }

pub returns-clause-faulty : goal.returns-clause-faulty
returns-clause-faulty c =
    all-faulty c.args.net.now (fault_in c.args.held.now) c.args.good.now c.gates.cone c.gates.next c.valid_law.ensures (λ k. ap (λ marks. is_marked marks k) (sym c.as_mut_slice.ensures.value) ∙ c.in_default.ensures.taken k) c.gates.invariant.spread
