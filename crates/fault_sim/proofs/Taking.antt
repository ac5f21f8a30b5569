-- The faults that one pass takes from a list, and what is written of them.
use Rattle.std.proofs.Common.{◌≡◌, ◌≢◌, ℕ, zero, suc, ◌+◌, ◌<◌, ◌≤◌, true, false, inl, inr, List, [], ◌∷◌, ◌++◌, length, length-append, set, refl, sym, ap, ◌∙◌, subst, arith}
use Rattle.std.specs.Prelude.{◌↔◌, ◌⊎◌, Option, Some, None, slice_get, slice_index}
use Rattle.std.proofs.lemmas.Bool.{false≢true, cases_Bool, cases_eq, cases_lt}
use Rattle.std.proofs.lemmas.List.{get_or_append_left, get_or-append-add}
use Rattle.std.proofs.lemmas.Option.{slice_get_within, slice_get-get_or}
use Rattle.ae_base.specs.Mask.{Set, has}
use Rattle.ae_net.specs.declared.net.Fault.{Fault}
use Rattle.ae_net.specs.Network.{Network}
use Rattle.ae_net.specs.Out.{Differs, out}
use Rattle.fault_sim.specs.declared.words.TheConstants.{LANES}
use Rattle.fault_sim.specs.Lanes.{AreFirstBelow, IsAlone, IsFirstBelow, Tells}
use Rattle.fault_sim.specs.Marks.{IsAmong}
use Rattle.fault_sim.specs.Taken.{AreWritten, IsTaken}
use Rattle.fault_sim.proofs.Reading.{among-last, among-left}
use Rattle.fault_sim.proofs.Searches.{found-stays, slice_get-set_other, some_is}

-- ---- one fault more

pub taken-none : (list : List Fault) (found : List (Option ℕ)) (ids : List ℕ) (faults : List Fault) (i : ℕ) → ids ≡ [] → faults ≡ [] → IsTaken list found ids faults i i
taken-none list found ids faults i no_ids no_faults =
    let zero : length ids ≡ 0 = ap length no_ids in record {
      as_many = zero ∙ sym (ap length no_faults);
      within = λ e lt. absurd (omega (arith, lt, zero));
      same = λ e lt. absurd (omega (arith, lt, zero));
      unfound = λ e lt. absurd (omega (arith, lt, zero));
      each = λ k from to. absurd (omega (arith, from, to));
    }

pub taken-over : (list : List Fault) (found : List (Option ℕ)) (ids : List ℕ) (faults : List Fault) (i j : ℕ) → slice_get found j ≢ Some None → IsTaken list found ids faults i j → IsTaken list found ids faults i (j + 1)
taken-over list found ids faults i j other taken = record {
  as_many = taken.as_many;
  within = λ e lt. let at = taken.within e lt in (at.0, omega (arith, at.1));
  same = taken.same;
  unfound = taken.unfound;
  each = λ k from to none. elim (cases_eq k j) [ inl e ↦ absurd (other (ap (slice_get found) (sym e) ∙ none)) | inr ne ↦ taken.each k from (omega (arith, to, ne)) none ];
}

pub taken-more : (list : List Fault) (found : List (Option ℕ)) (ids new_ids : List ℕ) (faults new_faults : List Fault) (fault : Fault) (i j : ℕ) → new_ids ≡ ids ++ j ∷ [] → new_faults ≡ faults ++ fault ∷ [] → slice_get list j ≡ Some fault → slice_get found j ≡ Some None → i ≤ j → IsTaken list found ids faults i j
    → IsTaken list found new_ids new_faults i (j + 1)
taken-more list found ids new_ids faults new_faults fault i j is_ids is_faults there none up taken =
    let count : length new_ids ≡ length ids + 1 = ap length is_ids ∙ length-append ids (j ∷ []) in record {
      as_many = count ∙ ap (λ k. k + 1) taken.as_many ∙ sym (ap length is_faults ∙ length-append faults (fault ∷ []));
      within = λ e lt. elim (cases_eq e (length ids)) [
        | inl last ↦ let at = id-last e last in (omega (arith, at, up), omega (arith, at))
        | inr old ↦ let less : e < length ids = omega (arith, lt, count, old) in let at = taken.within e less in let same = id-left e less in (omega (arith, at.0, same), omega (arith, at.1, same))
      ];
      same = λ e lt. elim (cases_eq e (length ids)) [
        | inl last ↦ ap (slice_get list) (id-last e last) ∙ there ∙ sym (ap (λ fs. slice_get fs e) is_faults ∙ get-last faults fault e (last ∙ taken.as_many))
        | inr old ↦
            let less : e < length ids = omega (arith, lt, count, old) in
            ap (slice_get list) (id-left e less) ∙ taken.same e less ∙ sym (ap (λ fs. slice_get fs e) is_faults ∙ get-left faults fault e (omega (arith, less, taken.as_many)))
      ];
      unfound = λ e lt. elim (cases_eq e (length ids)) [
        | inl last ↦ ap (slice_get found) (id-last e last) ∙ none
        | inr old ↦ let less : e < length ids = omega (arith, lt, count, old) in ap (slice_get found) (id-left e less) ∙ taken.unfound e less
      ];
      each = λ k from to unfound. subst (λ xs. IsAmong xs k) (sym is_ids) (elim (cases_eq k j) [
        | inl e ↦ subst (λ m. IsAmong (ids ++ j ∷ []) m) (sym e) (among-last ids j)
        | inr ne ↦ among-left ids (j ∷ []) k (taken.each k from (omega (arith, to, ne)) unfound)
      ]);
    }
  where
    id-last : (e : ℕ) → e ≡ length ids → slice_index new_ids e ≡ j
    id-last e last =
        let zero : e ≡ length ids + 0 = omega (arith, last) in ap (λ xs. slice_index xs e) is_ids ∙ ap (slice_index (ids ++ j ∷ [])) zero ∙ get_or-append-add ids (j ∷ []) 0 0

    id-left : (e : ℕ) → e < length ids → slice_index new_ids e ≡ slice_index ids e
    id-left e less = ap (λ xs. slice_index xs e) is_ids ∙ get_or_append_left ids (j ∷ []) 0 e less

    get-left : {X : Type 0} (xs : List X) (y : X) (e : ℕ) → e < length xs → slice_get (xs ++ y ∷ []) e ≡ slice_get xs e
    get-left [] y e less = absurd (omega (arith, less))
    get-left (x ∷ xs) y zero less = refl
    get-left (x ∷ xs) y (suc e) less = get-left xs y e (omega (arith, less))

    get-last : {X : Type 0} (xs : List X) (y : X) (e : ℕ) → e ≡ length xs → slice_get (xs ++ y ∷ []) e ≡ Some y
    get-last [] y zero last = refl
    get-last [] y (suc e) last = absurd (omega (arith, last))
    get-last (x ∷ xs) y zero last = absurd (omega (arith, last))
    get-last (x ∷ xs) y (suc e) last = get-last xs y e (omega (arith, last))

-- ---- what is written

pub written-none : (told point : ℕ) (ids : List ℕ) (found : List (Option ℕ)) → AreWritten told point ids found found 0
written-none told point ids found = record { found = λ e lt. absurd (omega (arith, lt)); others = λ k. inl refl }

pub written-over : (told point : ℕ) (ids : List ℕ) (before after : List (Option ℕ)) (e : ℕ) → has told e ≡ false → AreWritten told point ids before after e → AreWritten told point ids before after (e + 1)
written-over told point ids before after e unset written = record {
  found = λ d lt set. elim (cases_eq d e) [ inl same ↦ absurd (false≢true (sym unset ∙ ap (has told) (sym same) ∙ set)) | inr ne ↦ written.found d (omega (arith, lt, ne)) set ];
  others = λ k. elim (written.others k) [ inl same ↦ inl same | inr at ↦ inr (at.0, omega (arith, at.1), at.2, at.3) ];
}

slice_get-set : {X : Type 0} (xs : List X) (i : ℕ) (y : X) → i < length xs → slice_get (set xs i y) i ≡ Some y
slice_get-set [] i y lt = absurd (omega (arith, lt))
slice_get-set (x ∷ xs) zero y lt = refl
slice_get-set (x ∷ xs) (suc i) y lt = slice_get-set xs i y (omega (arith, lt))

pub written-more : (told point : ℕ) (ids : List ℕ) (before after : List (Option ℕ)) (e i : ℕ) → has told e ≡ true → i ≡ slice_index ids e → i < length after → AreWritten told point ids before after e → AreWritten told point ids before (set after i (Some point)) (e + 1)
written-more told point ids before after e i is_told at within written = record {
  found = λ d lt set_there. elim (cases_eq (slice_index ids d) i) [
    | inl same ↦ ap (slice_get (set after i (Some point))) same ∙ slice_get-set after i (Some point) within
    | inr ne ↦ slice_get-set_other after i (slice_index ids d) (Some point) ne ∙ written.found d (elim (cases_eq d e) [ inl last ↦ absurd (ne (ap (slice_index ids) last ∙ sym at)) | inr other ↦ omega (arith, lt, other) ]) set_there
  ];
  others = λ k. elim (cases_eq k i) [
    | inl same ↦ inr (e, omega arith, sym at ∙ sym same, is_told)
    | inr ne ↦ elim (written.others k) [
      | inl before ↦ inl (slice_get-set_other after i k (Some point) ne ∙ before)
      | inr one ↦ inr (one.0, omega (arith, one.1), one.2, one.3)
    ]
  ];
}

-- ---- what is found after the pass

-- the faults behind the pass, or before it
pub kept-outside : (n : Network) (points : List Set) (list : List Fault) (found after : List (Option ℕ)) (ids : List ℕ) (faults : List Fault) (told point i j a b m : ℕ) → IsTaken list found ids faults i j → AreWritten told point ids found after (length ids) → ((k : ℕ) → a ≤ k → k < b → (k < i) ⊎ (j ≤ k))
    → AreFirstBelow n points m list found a b → AreFirstBelow n points m list after a b
kept-outside n points list found after ids faults told point i j a b m taken written outside before k fault first from to there at =
    elim (written.others k) [
      | inl same ↦ before k fault first from to there (sym same ∙ at)
      | inr one ↦
          let within = taken.within one.0 one.1 in
          elim (outside k from to) [
            | inl early ↦ absurd (omega (arith, within.0, one.2, early))
            | inr late ↦ absurd (omega (arith, within.1, one.2, late))
          ]
    ]

-- the faults of the pass
pub tried : (n : Network) (points : List Set) (list : List Fault) (found after : List (Option ℕ)) (ids : List ℕ) (faults : List Fault) (good : List ℕ) (told point i j : ℕ) → length found ≡ length list → length ids ≤ LANES → IsTaken list found ids faults i j → AreWritten told point ids found after (length ids)
    → IsAlone n (slice_index points point) good → Tells n (slice_get faults) good told → AreFirstBelow n points point list found i j → AreFirstBelow n points (point + 1) list after i j
tried n points list found after ids faults good told point i j len few taken written alone tells before k fault first from to there at = by_old (slice_get found k) refl
  where
    -- a lane tells of its fault
    lane : (e : ℕ) → e < length ids → slice_index ids e ≡ k → (has told e ≡ true) ↔ Differs n fault (slice_index points point)
    lane e lt is =
        let same : slice_get faults e ≡ Some fault = sym (taken.same e lt) ∙ ap (slice_get list) is ∙ there in
        subst (λ f. (has told e ≡ true) ↔ (out n f (slice_index points point) ≢ out n None (slice_index points point))) same (tells e (slice_index points point) (omega (arith, lt, few)) (alone e (omega (arith, lt, few))))

    none_before : slice_get found k ≡ Some None → (m : ℕ) → m < point → ¬ Differs n fault (slice_index points m)
    none_before none = before k fault None from to there none

    here : (e : ℕ) → slice_get found k ≡ Some None → e < length ids → slice_index ids e ≡ k → has told e ≡ true → IsFirstBelow n points (point + 1) fault (Some point)
    here e none lt is set = (omega arith, (lane e lt is).0 set, none_before none)

    by_lane : (e : ℕ) → slice_get found k ≡ Some None → e < length ids → slice_index ids e ≡ k → IsFirstBelow n points (point + 1) fault first
    by_lane e none lt is = elim (cases_Bool (has told e)) [
      | inl set ↦ subst (IsFirstBelow n points (point + 1) fault) (some_is (Some point) first (sym (ap (slice_get after) (sym is) ∙ written.found e lt set) ∙ at)) (here e none lt is set)
      | inr unset ↦ elim (written.others k) [
        | inl same ↦ subst (IsFirstBelow n points (point + 1) fault) (some_is None first (sym none ∙ sym same ∙ at)) (λ m to differs. elim (cases_lt m point) [
          | inl earlier ↦ none_before none m earlier differs
          | inr late ↦ let now : m ≡ point = omega (arith, to, late) in false≢true (sym unset ∙ (lane e lt is).1 (subst (λ m. Differs n fault (slice_index points m)) now differs))
        ])
        | inr one ↦ subst (IsFirstBelow n points (point + 1) fault) (some_is (Some point) first (sym (ap (slice_get after) (sym one.2) ∙ written.found one.0 one.1 one.3) ∙ at)) (here one.0 none one.1 one.2 one.3)
      ]
    ]

    by_old : (old : Option (Option ℕ)) → slice_get found k ≡ old → IsFirstBelow n points (point + 1) fault first
    by_old None nothing = absurd (omega (arith, slice_get_within list k fault there, len, past found k nothing))
      where
        past : {X : Type 0} (xs : List X) (i : ℕ) → slice_get xs i ≡ None → length xs ≤ i
        past [] i h = omega arith
        past (x ∷ xs) zero h = absurd (let s : ⊥ = cc in s)
        past (x ∷ xs) (suc i) h = let less = past xs i h in omega (arith, less)
    by_old (Some None) none = let among = taken.each k from to none in by_lane among.0 none among.1 among.2
    by_old (Some (Some i)) some = elim (written.others k) [
      | inl same ↦ subst (IsFirstBelow n points (point + 1) fault) (some_is (Some i) first (sym some ∙ sym same ∙ at)) (found-stays n points point (point + 1) fault i (omega arith) (before k fault (Some i) from to there some))
      | inr one ↦ absurd (let s : ⊥ = contradiction (ap (slice_get found) (sym one.2) ∙ taken.unfound one.0 one.1) some in s)
    ]
      where
        contradiction : slice_get found k ≡ Some None → slice_get found k ≡ Some (Some i) → ⊥
        contradiction a b = let e : None ≡ Some i = some_is None (Some i) (sym a ∙ b) in cc
