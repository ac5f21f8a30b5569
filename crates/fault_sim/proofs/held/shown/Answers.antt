use Rattle.std.proofs.Common.{◌≡◌, ℕ, ◌+◌, ◌<◌, ◌-◌, cond, length, refl, ap, sym, subst, ◌∙◌, arith}
use Rattle.std.specs.Prelude.{Some, slice_index}
use Rattle.ae_net.specs.Run.{seen}
use Rattle.fault_sim.specs.declared.words.TheConstants.{LANES}
use Rattle.std.proofs.lemmas.List.{get_or_default}
use Rattle.ae_base.specs.Mask.{has}
use Rattle.fault_sim.specs.Sites.{IsLast, entry, site, site_at, sites}
use Rattle.fault_sim.proofs.Holding.{none_fault, seen-none, seen-one}
use Rattle.fault_sim.proofs.held.shown.Goals as goal

pub loop-end-init : goal.loop-end-init
loop-end-init c =
    let last : IsLast c.args.net.now c.args.held.now.faults.items (site c.args.net.now c.args.at) _ c.index.result.now = subst (IsLast c.args.net.now c.args.held.now.faults.items (site c.args.net.now c.args.at) _) (sym (c.index.ensures ∙ get_or_default c.args.held.now.last.items c.site_of.result c.index.result.now 0 (omega (arith, c.requires.held.count, c.site_of.ensures, c.requires.place)) ∙ ap (λ s. slice_index c.args.held.now.last.items s) c.site_of.ensures)) (c.requires.held.last (site c.args.net.now c.args.at) c.requires.place) in
    record {
      within = last.within;
      at = last.at;
      done = λ l lt from. seen-none c.args.net.now c.args.held.now.faults.items c.args.at (entry c.args.held.now.all l) c.index.result.now (has c.args.word l) last from;
      left = λ l lt from. refl;
    }

pub loop-end-preserved : goal.loop-end-preserved
loop-end-preserved c =
    let n = c.args.net.now in
    let faults = c.args.held.now.faults.items in
    let e = c.loop-end.end - 1 in
    let within : e < length faults = omega (arith, c.loop-end.invariant.within, c.loop-end-test.true) in
    let here : site_at n faults e ≡ site n c.args.at = c.loop-end.invariant.at c.loop-end-test.true in
    let one : e + 1 ≡ c.loop-end.end = omega (arith, c.loop-end-test.true) in
    let chain : IsLast n faults (site n c.args.at) e c.index-in-loop-end-2.result.now = subst (IsLast n faults (site n c.args.at) e) (sym (c.index-in-loop-end-2.ensures ∙ get_or_default c.args.held.now.before.items e c.index-in-loop-end-2.result.now 0 (omega (arith, within, c.requires.held.before)))) (subst (λ s. IsLast n faults s e (slice_index c.args.held.now.before.items e)) here (c.requires.held.earlier e within (subst (λ s. s < sites n) (sym here) c.requires.place))) in
    let fault = c.index-in-loop-end.ensures ∙ get_or_default faults e c.index-in-loop-end.result.now none_fault within in
    let step = λ (l : ℕ) (lt : l < LANES). seen-one n faults c.args.at e (entry c.args.held.now.all l) c.index-in-loop-end-2.result.now (has c.lanes_of.result l) (has c.args.word l) (has c.loop-end.word l) (has c.held_at-word.result l) within chain (c.lanes_of.ensures l lt)
    (λ from. c.loop-end.invariant.done l lt (omega (arith, from, one)))
    (λ before. c.loop-end.invariant.left l lt (omega (arith, before, one)))
    (subst (λ f. has c.held_at-word.result l ≡ cond (has c.lanes_of.result l) (seen (Some f) c.args.at (has c.loop-end.word l)) (has c.loop-end.word l)) fault (c.held_at-word.ensures l lt)) in
    record {
      within = omega (arith, chain.within, within);
      at = chain.at;
      done = λ l lt. (step l lt).0;
      left = λ l lt. (step l lt).1;
    }
