use Rattle.std.proofs.Common.{◌≡◌, ◌≢◌, ℕ, ◌<◌, ◌+◌, length, inl, inr, refl, ap, sym, subst, ◌∙◌, arith}
use Rattle.std.specs.Prelude.{slice_index}
use Rattle.std.proofs.lemmas.Bool.{cases_eq, cases_lt}
use Rattle.std.proofs.lemmas.List.{get_or_default, get_or_past}
use Rattle.fault_sim.specs.Sites.{site, site_at}
use Rattle.fault_sim.proofs.Holding.{freed-all, none_fault, nothing-held, refilled}
use Rattle.fault_sim.proofs.held.release.Goals as goal

pub loop-e-preserved : goal.loop-e-preserved
loop-e-preserved c =
    let n = c.args.net.now in
    let held = c.loop-e.held in
    let invariant = c.loop-e.invariant in
    let e = c.loop-e.e in
    let s = c.site_of-s.result in
    let old = held.last.items in
    let value : c.as_mut_slice.result.now ≡ old = c.as_mut_slice.ensures.value in
    let new = refilled held.last c.set_at.new.last (c.set_at.ensures.len ∙ ap length value) in
    let within : e < length held.faults.items = omega (arith, c.loop-e-test.true, c.loop-e.auto.e-end, c.len-e-end.ensures, ap (λ v. length v.items) invariant.faults) in
    let site_is : s ≡ site_at n held.faults.items e = c.site_of-s.ensures ∙ ap (λ f. site n f.place) (c.index.ensures ∙ get_or_default held.faults.items e c.index.result.now none_fault within) in
    let others : (t : ℕ) → t ≢ s → slice_index c.set_at.new.last t ≡ slice_index old t = λ t ne. c.set_at.ensures.others t ne ∙ ap (λ xs. slice_index xs t) value in
    let zero : slice_index c.set_at.new.last s ≡ 0 = elim (cases_lt s (length old)) [
      | inl less ↦ c.set_at.ensures.here (subst (λ xs. s < length xs) (sym value) less)
      | inr past ↦ get_or_past c.set_at.new.last s 0 (omega (arith, past, c.set_at.ensures.len, ap length value))
    ] in
    record {
      faults = invariant.faults;
      before = invariant.before;
      all = invariant.all;
      count = ap length new ∙ c.set_at.ensures.len ∙ ap length value ∙ invariant.count;
      freed = λ k lt. ap (λ xs. slice_index xs (site_at n held.faults.items k)) new ∙ elim (cases_eq (site_at n held.faults.items k) s) [
        | inl same ↦ ap (slice_index c.set_at.new.last) same ∙ zero
        | inr ne ↦ others _ ne ∙ invariant.freed k (elim (cases_eq k e) [ inl last ↦ absurd (ne (ap (site_at n held.faults.items) last ∙ sym site_is)) | inr other ↦ omega (arith, lt, other) ])
      ];
      kept = λ t. elim (cases_eq t s) [
        | inl same ↦ inl (ap (λ xs. slice_index xs t) new ∙ ap (slice_index c.set_at.new.last) same ∙ zero)
        | inr ne ↦ elim (invariant.kept t) [
          | inl none ↦ inl (ap (λ xs. slice_index xs t) new ∙ others t ne ∙ none)
          | inr same ↦ inr (ap (λ xs. slice_index xs t) new ∙ others t ne ∙ same)
        ]
      ];
    }
