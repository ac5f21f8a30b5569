use Rattle.std.proofs.Common.{◌≡◌, ◌+◌, ◌<◌, ℕ, ◌||◌, length, false, true, Bool, ◌-◌, refl, ap, ap₂, sym, subst, ◌∙◌, inl, inr, eqb, eq-eqb, ne_eqb, arith}
use Rattle.std.specs.Prelude.{slice_index}
use Rattle.std.proofs.lemmas.Bool.{false≢true, cases_eq}
use Rattle.std.proofs.lemmas.List.{get_or_default}
use Rattle.fault_sim.specs.Marks.{is_marked}
use Rattle.fault_sim.specs.Sites.{site, site_at}
use Rattle.fault_sim.proofs.Beginning.{begun-on}
use Rattle.fault_sim.proofs.Holding.{none_fault, refilled}
use Rattle.fault_sim.proofs.cone.begin_one.Goals as goal

pub returns-then-index-e-clause-begun : goal.returns-then-index-e-clause-begun
returns-then-index-e-clause-begun c begun =
    c.hold_input.ensures.begun c.args.e (sym (get_or_default c.args.held.now.last.items c.site_of-s.result _ 0 (omega (arith, c.if-s-first.true, ap length c.inputs-first.ensures.inputs, c.requires.held.count))) ∙ sym c.index-then-s-first.ensures ∙ c.if-index-e.true) begun

pub returns-else-index-e-clause-begun : goal.returns-else-index-e-clause-begun
returns-else-index-e-clause-begun c begun =
    let n = c.args.net.now in
    let faults = c.args.held.now.faults.items in
    let at : c.site_of-s.result ≡ site_at n faults c.args.e = c.site_of-s.ensures ∙ ap (λ f. site n f.place) (c.index.ensures ∙ get_or_default faults c.args.e c.index.result.now none_fault c.requires.place) in
    let input : c.site_of-s.result < length n.inputs = omega (arith, c.if-s-first.true, ap length c.inputs-first.ensures.inputs) in
    begun-on n c.args.held.now c.args.good.now c.args.cone.now c.args.cone.now c.args.e c.requires.held refl refl (λ k set. set) (λ k within none same. omega (arith, same, at, input))
    (λ below last. c.if-index-e.false (c.index-then-s-first.ensures ∙ get_or_default c.args.held.now.last.items c.site_of-s.result _ 0 (omega (arith, input, c.requires.held.count)) ∙ ap (slice_index c.args.held.now.last.items) at ∙ last)) begun

pub returns-then-s-good-clause-begun : goal.returns-then-s-good-clause-begun
returns-then-s-good-clause-begun c begun =
    let n = c.args.net.now in
    let faults = c.args.held.now.faults.items in
    let at : c.site_of-s.result ≡ site_at n faults c.args.e = c.site_of-s.ensures ∙ ap (λ f. site n f.place) (c.index.ensures ∙ get_or_default faults c.args.e c.index.result.now none_fault c.requires.place) in
    begun-on n c.args.held.now c.args.good.now c.args.cone.now c.args.cone.now c.args.e c.requires.held refl refl (λ k set. set) (λ k within none same. omega (arith, same, at, within, c.if-s-good.true, c.requires.good))
    (λ below last. omega (arith, below, at, c.if-s-first.false, ap length c.inputs-first.ensures.inputs)) begun

pub returns-clause-marks : goal.returns-clause-marks
returns-clause-marks c j lower marks =
    let cone = c.args.cone.now in
    let i = c.site_of-s.result - length c.inputs-first.result.now in
    let after = refilled cone.marked c.mark.new.marks (c.mark.ensures.len ∙ ap length c.as_mut_slice.ensures.value) in
    record {
      marked = λ k set. elim (cases_eq k i) [
        | inl e ↦ (omega (arith, e, lower), omega (arith, e, c.if-s-good.false, c.if-s-first.false, c.requires.good, ap length c.inputs-first.ensures.inputs))
        | inr ne ↦ marks.marked k (sym (ap (λ marks. is_marked marks k) after ∙ c.mark.ensures.marked k ∙ ap₂ (λ a b. a || b) (ne_eqb k i ne) (ap (λ marks. is_marked marks k) c.as_mut_slice.ensures.value)) ∙ set)
      ];
      changed = marks.changed;
    }

pub returns-clause-begun : goal.returns-clause-begun
returns-clause-begun c begun =
    let n = c.args.net.now in
    let cone = c.args.cone.now in
    let faults = c.args.held.now.faults.items in
    let i = c.site_of-s.result - length c.inputs-first.result.now in
    let after = refilled cone.marked c.mark.new.marks (c.mark.ensures.len ∙ ap length c.as_mut_slice.ensures.value) in
    let at : c.site_of-s.result ≡ site_at n faults c.args.e = c.site_of-s.ensures ∙ ap (λ f. site n f.place) (c.index.ensures ∙ get_or_default faults c.args.e c.index.result.now none_fault c.requires.place) in
    begun-on n c.args.held.now c.args.good.now cone _ c.args.e c.requires.held refl refl
    (λ k set. ap (λ marks. is_marked marks k) after ∙ c.mark.ensures.marked k ∙ ap (λ b. eqb k i || b) (ap (λ marks. is_marked marks k) c.as_mut_slice.ensures.value ∙ set) ∙ or-true (eqb k i))
    (λ k within none same. let none : is_marked _ k ≡ false = none in false≢true (sym none ∙ ap (λ marks. is_marked marks k) after ∙ c.mark.ensures.marked k ∙ ap (λ b. b || is_marked c.as_mut_slice.result.now k) (eq-eqb k i (omega (arith, same, at, ap length c.inputs-first.ensures.inputs)))))
    (λ below last. omega (arith, below, at, c.if-s-first.false, ap length c.inputs-first.ensures.inputs))
    begun
  where
    or-true : (a : Bool) → (a || true) ≡ true
    or-true true = refl
    or-true false = refl
