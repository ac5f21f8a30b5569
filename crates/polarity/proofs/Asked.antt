-- Asking an advisor once more: what it is told, and the best so far.
use Rattle.std.proofs.Common.{◌≡◌, true, ℕ, suc, ◌<◌, ◌≤◌, cond, ltb, List, [], ◌∷◌, ◌++◌, length, map, drop, refl, ap, sym, subst, ◌∙◌, inl, inr, arith, append_assoc, append-nil}
use Rattle.std.specs.Prelude.{not}
use Rattle.std.specs.List.{All, filter}
use Rattle.std.proofs.Math.Seq.{drop-append_seam}
use Rattle.std.proofs.lemmas.Bool.{cases_lt, lt-ltb, le-ltb}
use Rattle.std.proofs.lemmas.Bool.Decides.{nat_tests}
use Rattle.std.proofs.lemmas.List.{map-append}
use Rattle.std.proofs.lemmas.List.Elements.{All-append, All-cons, All-nil, All-push, All-weaker, AllZip-push, filter-append, length_all_zip}
use Rattle.std.proofs.lemmas.List.Sums.{sum_by-take-le}
use Rattle.ae_base.specs.Cube.{Signs}
use Rattle.ae_base.specs.Source.{Source}
use Rattle.expansion.specs.Functions.{AreExpansions}
use Rattle.expansion.specs.Terms.{Terms, cost}
use Rattle.polarity.specs.Advisors.{entry_of, ends_untold}
use Rattle.polarity.specs.Asking.{IsBeingAsked, AreAsked, cheaper_at}
use Rattle.polarity.specs.Cost.{cost_of, IsLocallyCheapest}
use Rattle.polarity.specs.Settling.{settling}
use Rattle.polarity.specs.Makers.{HasTooManyAt}
use Rattle.polarity.specs.Search.{Advised, IsAsked, IsChosen, IsFirstCheapest, IsTold, Stands, advised, candidates, is_over, new_entries, told_at}
use Rattle.polarity.proofs.Rounds.{Costs}
use Rattle.polarity.specs.declared.entry.Entry.{Entry}
use Rattle.polarity.specs.declared.entry.Told.{Told}
use Rattle.polarity.specs.declared.entry.Told.TheVariants.{Untold, Over, Cost}

-- ---- what is told

module _ (s : Source) (limit : ℕ) where
  told_cost : (p : Signs) → cost_of s p ≤ limit → Cost (cost_of s p) ≡ told_at s limit p
  told_cost p h = grind (arith, nat_tests)

  pub told_over : (p : Signs) → limit < cost_of s p → Over ≡ told_at s limit p
  told_over p h = grind (arith, nat_tests)

  -- the cost of an expansion within the limit
  pub told_within : Costs → (e : Terms) → AreExpansions s e.polarity e → cost e ≤ limit → Cost (cost e) ≡ told_at s limit e.polarity
  told_within costs e h within =
      let same : cost e ≡ cost_of s e.polarity = costs s e.polarity e h in
      ap (λ n. Cost n) same ∙ told_cost e.polarity (omega (arith, same, within))

  -- an expansion of too many terms costs more than the limit
  pub passes_over : Costs → (p : Signs) (output : ℕ) → HasTooManyAt s limit p output → limit < cost_of s p
  passes_over costs p output h = omega (arith, h.passes.past, sum_by-take-le length h.expansions.outs (suc output), costs s p h.expansions h.are_expansions)

-- ---- the best so far

module _ (s : Source) (limit : ℕ) (best p : Signs) where
  pub stays_best : limit < cost_of s p → best ≡ cheaper_at s limit best p
  stays_best h = grind (arith, nat_tests)

  stays_first : cost_of s best ≤ cost_of s p → best ≡ cheaper_at s limit best p
  stays_first h = grind (arith, nat_tests)

  becomes_best : cost_of s p ≤ limit → cost_of s p < cost_of s best → p ≡ cheaper_at s limit best p
  becomes_best h l = grind (arith, nat_tests)

-- the cheaper one of two expansions of the source
pub cheaper_is : Costs → (s : Source) (limit : ℕ) (best e : Terms) → AreExpansions s best.polarity best → AreExpansions s e.polarity e
    → cost e ≤ limit
    → (cond (ltb (cost e) (cost best)) e best).polarity ≡ cheaper_at s limit best.polarity e.polarity
cheaper_is costs s limit best e hb he within =
    let new : cost e ≡ cost_of s e.polarity = costs s e.polarity e he in
    let old : cost best ≡ cost_of s best.polarity = costs s best.polarity best hb in
    elim (cases_lt (cost e) (cost best)) [
      | inl l ↦ rw (lt-ltb (cost e) (cost best) l) (becomes_best s limit best.polarity e.polarity (omega (arith, new, within)) (omega (arith, new, old, l)))
      | inr l ↦ rw (le-ltb (cost e) (cost best) l) (stays_first s limit best.polarity e.polarity (omega (arith, new, old, l)))
    ]

-- ---- the first cheapest of a list that grows

first_as : {s : Source} {ps : List Signs} {b : Signs} (qs : List Signs) (c : Signs) → IsFirstCheapest s ps b → ps ≡ qs → b ≡ c → IsFirstCheapest s qs c
first_as {s} {ps} {b} qs c h lists best = subst (λ q. IsFirstCheapest s qs q) best (subst (λ l. IsFirstCheapest s l b) lists h)

pub first_alone : (s : Source) (p : Signs) → IsFirstCheapest s (p ∷ []) p
first_alone s p = record { before = []; after = []; is = refl; dearer = All-nil (λ q. cost_of s p < cost_of s q); no_cheaper = All-nil (λ q. cost_of s p ≤ cost_of s q) }

module _ (s : Source) (ps : List Signs) (b : Signs) (h : IsFirstCheapest s ps b) where
  -- what holds of each polarity that costs no less holds of the whole list
  all_from : (P : Signs → Type 0) → ((q : Signs) → cost_of s b ≤ cost_of s q → P q) → All P ps
  all_from P holds =
      let before : All P h.before = All-weaker (λ q. cost_of s b < cost_of s q) P (λ q l. holds q (omega (arith, l))) h.before h.dearer in
      let after : All P h.after = All-weaker (λ q. cost_of s b ≤ cost_of s q) P holds h.after h.no_cheaper in
      subst (All P) (sym h.is) (All-append P h.before (b ∷ h.after) before (All-cons P b h.after (holds b (omega arith)) after))

  pub no_dearer : (p : Signs) → cost_of s p ≤ cost_of s b → All (λ q. cost_of s p ≤ cost_of s q) ps
  no_dearer p le = all_from (λ q. cost_of s p ≤ cost_of s q) (λ q l. omega (arith, l, le))

  first_kept : (p : Signs) → cost_of s b ≤ cost_of s p → IsFirstCheapest s (ps ++ p ∷ []) b
  first_kept p le = record {
    before = h.before;
    after = h.after ++ p ∷ [];
    is = ap (λ l. l ++ p ∷ []) h.is ∙ append_assoc h.before (b ∷ h.after) (p ∷ []);
    dearer = h.dearer;
    no_cheaper = All-push (λ q. cost_of s b ≤ cost_of s q) h.after p h.no_cheaper le;
  }

  first_new : (p : Signs) → cost_of s p < cost_of s b → IsFirstCheapest s (ps ++ p ∷ []) p
  first_new p lt = record {
    before = ps;
    after = [];
    is = refl;
    dearer = all_from (λ q. cost_of s p < cost_of s q) (λ q l. omega (arith, l, lt));
    no_cheaper = All-nil (λ q. cost_of s p ≤ cost_of s q);
  }

candidates-append : (xs ys : List Entry) → candidates (xs ++ ys) ≡ candidates xs ++ candidates ys
candidates-append xs ys =
    ap (map (λ e. e.polarity)) (filter-append (λ e. not (is_over e.cost)) xs ys) ∙ map-append (λ e. e.polarity) (filter (λ e. not (is_over e.cost)) xs) (filter (λ e. not (is_over e.cost)) ys)

first_told : (s : Source) (limit : ℕ) (ps : List Signs) (b p : Signs) (t : Told) → t ≡ told_at s limit p → IsFirstCheapest s ps b
    → IsFirstCheapest s (ps ++ candidates (entry_of p t ∷ [])) (cheaper_at s limit b p)
first_told s limit ps b p t is h = elim (cases_lt limit (cost_of s p)) [
  | inl over ↦ rw (is ∙ sym (told_over s limit p over)) (first_as _ _ h (sym (append-nil ps)) (stays_best s limit b p over))
  | inr within ↦
      rw (is ∙ sym (told_cost s limit p within)) (elim (cases_lt (cost_of s p) (cost_of s b)) [
        | inl l ↦ first_as _ _ (first_new s ps b h p l) refl (becomes_best s limit b p within l)
        | inr l ↦ first_as _ _ (first_kept s ps b h p l) refl (stays_first s limit b p l)
      ])
]

-- ---- one advisor

pub part_none : (s : Source) (limit : ℕ) (start : Signs) (log : List Entry) → IsBeingAsked s limit start log log start
part_none s limit start log = record { new = []; log = sym (append-nil log); told = All-nil (IsTold s limit); first = λ ps h. first_as _ _ h (sym (append-nil ps)) refl }

-- after one more proposal
pub part_more : (s : Source) (limit : ℕ) (start : Signs) (before mid after : List Entry) (best p best' : Signs) (t : Told) → IsBeingAsked s limit start before mid best
    → after ≡ mid ++ entry_of p t ∷ [] → p.n ≡ length s.inputs → t ≡ told_at s limit p → best' ≡ cheaper_at s limit best p → IsBeingAsked s limit start before after best'
part_more s limit start before mid after best p best' t h grows inputs is cheaper = record {
  new = h.new ++ entry_of p t ∷ [];
  log = grows ∙ ap (λ l. l ++ entry_of p t ∷ []) h.log ∙ append_assoc before h.new (entry_of p t ∷ []);
  told = All-push (IsTold s limit) h.new (entry_of p t) h.told (record { inputs = inputs; cost = is });
  first = λ ps f.
      first_as _ _ (first_told s limit (ps ++ candidates h.new) best p t is (h.first ps f))
      (append_assoc ps (candidates h.new) (candidates (entry_of p t ∷ [])) ∙ ap (λ l. ps ++ l) (sym (candidates-append h.new (entry_of p t ∷ [])))) (sym cheaper);
}

pub stands_still : (a : Advised) → Stands a a
stands_still a = record { left = omega arith; new = []; log = sym (append-nil a.log) }

pub stands_more : (before : Advised) (left left' : ℕ) (log log' : List Entry) (e : Entry) → Stands before (advised left log)
    → left' ≤ left → log' ≡ log ++ e ∷ [] → Stands before (advised left' log')
stands_more before left left' log log' e h less grows = record {
  left = omega (arith, h.left, less);
  new = h.new ++ e ∷ [];
  log = grows ∙ ap (λ l. l ++ e ∷ []) h.log ∙ append_assoc before.log h.new (e ∷ []);
}

-- ---- all advisors

new_entries-push : (bs us : List Advised) (b u : Advised) → length bs ≡ length us
    → new_entries (bs ++ b ∷ []) (us ++ u ∷ []) ≡ new_entries bs us ++ drop (length b.log) u.log
new_entries-push [] [] b u e = append-nil (drop (length b.log) u.log)
new_entries-push [] (v ∷ us) b u e = absurd (omega (arith, e))
new_entries-push (c ∷ bs) [] b u e = absurd (omega (arith, e))
new_entries-push (c ∷ bs) (v ∷ us) b u e =
    ap (λ l. drop (length c.log) v.log ++ l) (new_entries-push bs us b u (omega (arith, e)))
    ∙ sym (append_assoc (drop (length c.log) v.log) (new_entries bs us) (drop (length b.log) u.log))

-- after one more advisor
pub asked_more : (s : Source) (limit : ℕ) (start : Signs) (bs us : List Advised) (b u : Advised) (best best' : Signs) → AreAsked s limit start bs us best
    → IsBeingAsked s limit best b.log u.log best' → u.left ≡ 0 → AreAsked s limit start (bs ++ b ∷ []) (us ++ u ∷ []) best'
asked_more s limit start bs us b u best best' h part none =
    let new : drop (length b.log) u.log ≡ part.new = ap (drop (length b.log)) part.log ∙ drop-append_seam b.log part.new in
    let entries : new_entries (bs ++ b ∷ []) (us ++ u ∷ []) ≡ new_entries bs us ++ part.new =
    new_entries-push bs us b u (length_all_zip (IsAsked s limit) bs us h.asked) ∙ ap (λ l. new_entries bs us ++ l) new in
    record {
      asked = AllZip-push (IsAsked s limit) bs us b u h.asked (record { left = none; new = part.new; log = part.log; told = part.told });
      first = λ ps f.
          first_as _ _ (part.first (ps ++ candidates (new_entries bs us)) (h.first ps f))
          (append_assoc ps (candidates (new_entries bs us)) (candidates part.new) ∙ ap (λ l. ps ++ l) (sym (candidates-append (new_entries bs us) part.new))
          ∙ ap (λ es. ps ++ candidates es) (sym entries)) refl;
    }

-- ---- telling

pub ends_untold-push : (log : List Entry) (p : Signs) → ends_untold (log ++ entry_of p Untold ∷ []) ≡ true
ends_untold-push [] p = refl
ends_untold-push (e ∷ []) p = refl
ends_untold-push (e ∷ f ∷ rest) p = ends_untold-push (f ∷ rest) p
