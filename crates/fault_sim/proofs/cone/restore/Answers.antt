use Rattle.std.proofs.Common.{◌<◌, length, ap, sym, subst, ◌∙◌, arith}
use Rattle.std.proofs.lemmas.Grind.{same_number_lists}
use Rattle.std.proofs.lemmas.List.{get_or_default, length-set}
use Rattle.fault_sim.specs.Marks.{IsFirstTaken, is_marked}
use Rattle.fault_sim.proofs.Holding.{refilled}
use Rattle.fault_sim.proofs.Cones.{restored-from, restored-only, restored-word}
use Rattle.fault_sim.proofs.cone.restore.Goals as goal

pub signals-preserved : goal.signals-preserved
signals-preserved c =
    let cone = c.signals.cone in
    let s = c.in-Some.s in
    let invariant = c.signals.invariant in
    let after = refilled cone.changed c.take_first.new.marks (omega (arith, c.take_first.ensures.len, c.as_mut_slice.ensures.len, cone.changed.ok.0)) in
    let taken : IsFirstTaken cone.changed.items c.take_first.new.marks s = subst (λ marks. IsFirstTaken marks c.take_first.new.marks s) c.as_mut_slice.ensures.value c.in-Some.ensures.taken in
    let word = c.index-good-s.is ∙ get_or_default c.args.good.now s c.index-good-s.result 0 (invariant.signals s taken.marked) in
    let room : s < length cone.words.items = omega (arith, invariant.signals s taken.marked, invariant.len.0, c.requires.words) in record {
      from = λ t lt. ap (λ marks. is_marked marks t) after ∙ restored-from cone.changed.items c.take_first.new.marks s c.signals.next taken t lt;
      signals = λ t set. invariant.signals t (restored-only cone.changed.items c.take_first.new.marks s t taken (ap (λ marks. is_marked marks t) (sym after) ∙ set));
      changed = λ t none. restored-word c.args.good.now cone.words.items cone.changed.items c.take_first.new.marks s t c.index-good-s.result word room taken invariant.changed (ap (λ marks. is_marked marks t) (sym after) ∙ none);
      marked = invariant.marked;
      len = (length-set cone.words.items s _ ∙ invariant.len.0, invariant.len.1, invariant.len.2, ap length after ∙ c.take_first.ensures.len ∙ ap length c.as_mut_slice.ensures.value ∙ invariant.len.3, invariant.len.4);
    }

pub returns-clause-words : goal.returns-clause-words
returns-clause-words c =
    same_number_lists c.signals.cone.words.items c.args.good.now (c.signals.invariant.len.0 ∙ c.requires.words)
    (λ k lt. c.signals.invariant.changed k (ap (λ marks. is_marked marks k) (sym c.as_mut_slice.ensures.value) ∙ c.in_default.ensures.taken k))
