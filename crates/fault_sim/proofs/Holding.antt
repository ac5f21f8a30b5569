-- The faults of a pass by their sites: chains, and what is seen at a place.
use Rattle.std.proofs.Common.{◌≡◌, ◌≢◌, ℕ, zero, suc, ◌+◌, ◌-◌, ◌<◌, ◌≤◌, Bool, true, false, cond, ◌&&◌, inl, inr, List, [], ◌∷◌, ◌++◌, length, length-append, refl, sym, ap, ap₂, ◌∙◌, subst, eqb, eqb-true, eq-eqb, ne_eqb, arith}
use Rattle.std.specs.Prelude.{◌⊎◌, Option, Some, None, slice_get, slice_index, slice_index_or}
use Rattle.std.proofs.lemmas.Bool.{false≢true, cases_Bool, cases_eq, cases_lt, and_parts, false_from_ne_true}
use Rattle.std.proofs.lemmas.List.{get_or_append_left, get_or-append-add, get_or-set_same, get_or-set_other, get_or_past, with_items_is}
use Rattle.std.proofs.lemmas.Option.{slice_get_within, slice_get-get_or, get_or_from_slice_get}
use Rattle.std.specs.Global.{Vec}
use Rattle.std.specs.Vec.{with_items}
use Rattle.ae_base.specs.Mask.{has}
use Rattle.ae_net.specs.declared.net.Place.{Place}
use Rattle.ae_net.specs.declared.net.Place.TheVariants.{Stem, Pin, Port}
use Rattle.ae_net.specs.declared.net.Fault.{Fault}
use Rattle.ae_net.specs.Network.{Network, signals}
use Rattle.ae_net.specs.Run.{same_place, seen}
use Rattle.fault_sim.specs.declared.held.Held.{Held}
use Rattle.fault_sim.specs.declared.words.TheConstants.{LANES}
use Rattle.fault_sim.specs.Lanes.{IsElsewhere, IsFree}
use Rattle.fault_sim.specs.Sites.{IsHeld, IsLast, entry, fault_in, room, site, site_at, sites}

abbrev pub none_fault : Fault
none_fault = record { place = Stem 0; value = false }

-- ---- places and their sites

same-site : (n : Network) (p at : Place) → same_place p at ≡ true → site n p ≡ site n at
same-site n (Stem s) (Stem t) e = eqb-true s t e
same-site n (Stem s) (Pin j k) e = absurd (false≢true e)
same-site n (Stem s) (Port o) e = absurd (false≢true e)
same-site n (Pin i k) (Stem t) e = absurd (false≢true e)
same-site n (Pin i k) (Pin j l) e = ap (λ i. length n.inputs + i) (eqb-true i j ((and_parts _ _ e).0))
same-site n (Pin i k) (Port o) e = absurd (false≢true e)
same-site n (Port o) (Stem t) e = absurd (false≢true e)
same-site n (Port o) (Pin j l) e = absurd (false≢true e)
same-site n (Port o) (Port p) e = ap (λ o. signals n + o) (eqb-true o p e)

other-site : (n : Network) (p at : Place) → site n p ≢ site n at → same_place p at ≡ false
other-site n p at ne = false_from_ne_true _ (λ e. ne (same-site n p at e))

-- a fault elsewhere changes nothing
pub unseen : (n : Network) (faults : List Fault) (e s : ℕ) (at : Place) (b : Bool) → site n at ≡ s → (e < length faults → site_at n faults e ≢ s) → seen (slice_get faults e) at b ≡ b
unseen n faults e s at b is other =
    elim (cases_lt e (length faults)) [
      | inl less ↦
          ap (λ f. seen f at b) (slice_get-get_or faults e none_fault less)
          ∙ ap (λ t. cond t (slice_index_or faults e none_fault).value b) (other-site n (slice_index_or faults e none_fault).place at (λ same. other less (same ∙ is)))
      | inr past ↦ ap (λ f. seen f at b) (slice_get-past faults e past)
    ]
  where
    slice_get-past : {X : Type 0} (xs : List X) (i : ℕ) → length xs ≤ i → slice_get xs i ≡ None
    slice_get-past [] i h = refl
    slice_get-past (x ∷ xs) zero h = absurd (omega (arith, h))
    slice_get-past (x ∷ xs) (suc i) h = slice_get-past xs i (omega (arith, h))

-- ---- one fault more

site-left : (n : Network) (faults : List Fault) (fault : Fault) (e : ℕ) → e < length faults → site_at n (faults ++ fault ∷ []) e ≡ site_at n faults e
site-left n faults fault e lt = ap (λ f. site n f.place) (get_or_append_left faults (fault ∷ []) none_fault e lt)

site-new : (n : Network) (faults : List Fault) (fault : Fault) (m : ℕ) → m ≡ length faults → site_at n (faults ++ fault ∷ []) m ≡ site n fault.place
site-new n faults fault m is =
    let e : m ≡ length faults + 0 = omega (arith, is) in
    ap (λ k. site n (slice_index_or (faults ++ fault ∷ []) k none_fault).place) e ∙ ap (λ f. site n f.place) (get_or-append-add faults (fault ∷ []) 0 none_fault)

last-left : (n : Network) (faults : List Fault) (fault : Fault) (s m b : ℕ) → m ≤ length faults → IsLast n faults s m b → IsLast n (faults ++ fault ∷ []) s m b
last-left n faults fault s m b few last = record {
  within = last.within;
  at = λ some. site-left n faults fault (b - 1) (omega (arith, few, last.within, some)) ∙ last.at some;
  others = λ e from to same. last.others e from to (sym (site-left n faults fault e (omega (arith, to, few))) ∙ same);
}

last-other : (n : Network) (faults : List Fault) (fault : Fault) (s b : ℕ) → site n fault.place ≢ s → IsLast n faults s (length faults) b → IsLast n (faults ++ fault ∷ []) s (length faults + 1) b
last-other n faults fault s b ne last =
    let before = last-left n faults fault s (length faults) b (omega arith) last in record {
      within = omega (arith, last.within);
      at = before.at;
      others = λ e from to same. elim (cases_eq e (length faults)) [ inl new ↦ ne (sym (site-new n faults fault e new) ∙ same) | inr old ↦ before.others e from (omega (arith, to, old)) same ];
    }

last-new : (n : Network) (faults : List Fault) (fault : Fault) → IsLast n (faults ++ fault ∷ []) (site n fault.place) (length faults + 1) (length faults + 1)
last-new n faults fault = record {
  within = omega arith;
  at = λ some. site-new n faults fault (length faults + 1 - 1) (omega arith);
  others = λ e from to same. omega (arith, from, to);
}

pub held-more : (n : Network) (held after : Held) (fault : Fault) → IsHeld n held → length held.faults.items + 1 ≤ length after.faults.items → length after.faults.items ≤ room after.all → after.faults.items ≡ held.faults.items ++ fault ∷ []
    → after.before.items ≡ held.before.items ++ slice_index held.last.items (site n fault.place) ∷ [] → length after.last.items ≡ sites n → ((s : ℕ) → s ≢ site n fault.place → slice_index after.last.items s ≡ slice_index held.last.items s) → (site n fault.place < sites n → slice_index after.last.items (site n fault.place) ≡ length held.faults.items + 1)
    → IsHeld n after
held-more n held after fault is more few faults before count others new =
    let m = length held.faults.items in
    let len : length after.faults.items ≡ m + 1 = ap length faults ∙ length-append held.faults.items (fault ∷ []) in record {
      count = count;
      before = ap length before ∙ length-append held.before.items _ ∙ ap (λ k. k + 1) is.before ∙ sym len;
      few = few;
      last = λ s within. subst (λ fs. IsLast n fs s (length after.faults.items) (slice_index after.last.items s)) (sym faults) (subst (λ k. IsLast n (held.faults.items ++ fault ∷ []) s k (slice_index after.last.items s)) (sym len) (elim (cases_eq s (site n fault.place)) [
        | inl e ↦
            subst (λ t. IsLast n (held.faults.items ++ fault ∷ []) t (m + 1) (slice_index after.last.items t)) (sym e)
            (subst (λ b. IsLast n (held.faults.items ++ fault ∷ []) (site n fault.place) (m + 1) b) (sym (new (omega (arith, e, within)))) (last-new n held.faults.items fault))
        | inr ne ↦ subst (λ b. IsLast n (held.faults.items ++ fault ∷ []) s (m + 1) b) (sym (others s ne)) (last-other n held.faults.items fault s _ (λ e. ne (sym e)) (is.last s within))
      ]));
      earlier = λ e lt within. subst (λ fs. IsLast n fs (site_at n fs e) e (slice_index after.before.items e)) (sym faults) (elim (cases_eq e m) [
        | inl last ↦
            let at = site-new n held.faults.items fault e last in
            let within_site : site n fault.place < sites n = subst (λ s. s < sites n) at (subst (λ fs. site_at n fs e < sites n) faults within) in
            let b : slice_index after.before.items e ≡ slice_index held.last.items (site n fault.place) =
            (let zero : e ≡ length held.before.items + 0 = omega (arith, last, is.before) in ap (λ bs. slice_index bs e) before ∙ ap (slice_index (held.before.items ++ _ ∷ [])) zero ∙ get_or-append-add held.before.items (_ ∷ []) 0 0) in
            subst (λ s. IsLast n (held.faults.items ++ fault ∷ []) s e (slice_index after.before.items e)) (sym at)
            (subst (λ b. IsLast n (held.faults.items ++ fault ∷ []) (site n fault.place) e b) (sym b)
            (subst (λ k. IsLast n (held.faults.items ++ fault ∷ []) (site n fault.place) k (slice_index held.last.items (site n fault.place))) (sym last)
            (last-left n held.faults.items fault (site n fault.place) m _ (omega arith) (is.last (site n fault.place) within_site))))
        | inr old ↦
            let less : e < m = omega (arith, lt, len, old) in
            let at = site-left n held.faults.items fault e less in
            let within_site : site_at n held.faults.items e < sites n = subst (λ s. s < sites n) at (subst (λ fs. site_at n fs e < sites n) faults within) in
            let b : slice_index after.before.items e ≡ slice_index held.before.items e = ap (λ bs. slice_index bs e) before ∙ get_or_append_left held.before.items _ 0 e (omega (arith, less, is.before)) in
            subst (λ s. IsLast n (held.faults.items ++ fault ∷ []) s e (slice_index after.before.items e)) (sym at)
            (subst (λ b. IsLast n (held.faults.items ++ fault ∷ []) (site_at n held.faults.items e) e b) (sym b)
            (last-left n held.faults.items fault (site_at n held.faults.items e) e _ (omega (arith, less)) (is.earlier e less within_site)))
      ]);
    }

-- ---- no faults

pub nothing-held : (n : Network) (held : Held) → held.faults.items ≡ [] → held.before.items ≡ [] → length held.last.items ≡ sites n → ((s : ℕ) → slice_index held.last.items s ≡ 0) → IsHeld n held
nothing-held n held faults before count none =
    let zero_faults : length held.faults.items ≡ 0 = ap length faults in record {
      count = count;
      before = ap length before ∙ sym zero_faults;
      few = elim (cases_Bool held.all) [ inl e ↦ rw (e, zero_faults) (omega arith) | inr e ↦ rw (e, zero_faults) (omega arith) ];
      last = λ s within. record { within = omega (arith, none s); at = λ some. absurd (omega (arith, some, none s)); others = λ e from to. absurd (omega (arith, to, zero_faults)) };
      earlier = λ e lt. absurd (omega (arith, lt, zero_faults));
    }

-- after the sites of all faults are made free, no site has a fault
pub freed-all : (n : Network) (held : Held) (lasts : List ℕ) → IsHeld n held → length lasts ≡ sites n → ((e : ℕ) → e < length held.faults.items → slice_index lasts (site_at n held.faults.items e) ≡ 0) → ((s : ℕ) → (slice_index lasts s ≡ 0) ⊎ (slice_index lasts s ≡ slice_index held.last.items s)) → (s : ℕ) → slice_index lasts s ≡ 0
freed-all n held lasts is count freed kept s =
    elim (kept s) [
      | inl none ↦ none
      | inr same ↦ elim (cases_lt s (sites n)) [
        | inr past ↦ get_or_past lasts s 0 (omega (arith, past, count))
        | inl within ↦ elim (cases_eq (slice_index held.last.items s) 0) [
          | inl none ↦ same ∙ none
          | inr some ↦
              let last = is.last s within in
              let positive : 0 < slice_index held.last.items s = omega (arith, some) in
              ap (slice_index lasts) (sym (last.at positive)) ∙ freed (slice_index held.last.items s - 1) (omega (arith, last.within, positive))
        ]
      ]
    ]

-- ---- what is seen at a place

-- one fault of the chain: those from its place on are seen, those before not yet
pub seen-one : (n : Network) (faults : List Fault) (at : Place) (e k b : ℕ) (lane old now next : Bool) → e < length faults → IsLast n faults (site n at) e b → lane ≡ eqb k e
    → (e + 1 ≤ k → now ≡ seen (slice_get faults k) at old) → (k < e + 1 → now ≡ old) → next ≡ cond lane (seen (Some (slice_index_or faults e none_fault)) at now) now
    → (b ≤ k → next ≡ seen (slice_get faults k) at old) × (k < b → next ≡ old)
seen-one n faults at e k b lane old now next within last lanes done left is =
    elim (cases_eq k e) [
      | inl same ↦
          let here : next ≡ seen (Some (slice_index_or faults e none_fault)) at now = is ∙ ap (λ t. cond t (seen (Some (slice_index_or faults e none_fault)) at now) now) (lanes ∙ eq-eqb k e same) in (
            λ from. here ∙ ap (seen (Some (slice_index_or faults e none_fault)) at) (left (omega (arith, same))) ∙ ap (λ f. seen f at old) (sym (ap (slice_get faults) same ∙ slice_get-get_or faults e none_fault within)),
            λ before. absurd (omega (arith, before, same, last.within)),
          )
      | inr ne ↦
          let kept : next ≡ now = is ∙ ap (λ t. cond t (seen (Some (slice_index_or faults e none_fault)) at now) now) (lanes ∙ ne_eqb k e ne) in (
            λ from. elim (cases_lt k e) [
              | inl less ↦ kept ∙ left (omega (arith, less)) ∙ sym (unseen n faults k (site n at) at old refl (λ lt. last.others k from less))
              | inr more ↦ kept ∙ done (omega (arith, more, ne))
            ],
            λ before. kept ∙ left (omega (arith, before, last.within)),
          )
    ]

-- at the head of the chain
pub seen-none : (n : Network) (faults : List Fault) (at : Place) (k b : ℕ) (old : Bool) → IsLast n faults (site n at) (length faults) b → b ≤ k → old ≡ seen (slice_get faults k) at old
seen-none n faults at k b old last from = sym (unseen n faults k (site n at) at old refl (λ lt. last.others k from lt))

-- what a vector has after it was written as a slice
pub refilled : {X : Type 0} (v : Vec X) (ws : List X) → length ws ≡ length v.items → (with_items v ws).items ≡ ws
refilled v ws e = with_items_is v ws (omega (arith, e, v.ok.0))

-- a gate at which there is no fault
pub free-site : (n : Network) (held : Held) (i : ℕ) → IsHeld n held → i < length n.gates → slice_index held.last.items (length n.inputs + i) ≡ 0 → IsFree n (fault_in held) i
free-site n held i is within none l lt = elsewhere (slice_get held.faults.items (entry held.all l)) refl
  where
    far : (at : Place) (fault : Fault) → site n at ≡ length n.inputs + i → slice_get held.faults.items (entry held.all l) ≡ Some fault → same_place fault.place at ≡ false
    far at fault is_site there =
        let e = entry held.all l in
        let same : slice_index_or held.faults.items e none_fault ≡ fault = get_or_from_slice_get held.faults.items e fault none_fault there in
        other-site n fault.place at (λ equal. (is.last (length n.inputs + i) (omega (arith, within))).others e (omega (arith, none)) (slice_get_within held.faults.items e fault there) (ap (λ f. site n f.place) same ∙ equal ∙ is_site))

    elsewhere : (fault : Option Fault) → slice_get held.faults.items (entry held.all l) ≡ fault → IsElsewhere n fault i
    elsewhere None there = tt
    elsewhere (Some fault) there = (far (Stem (length n.inputs + i)) fault refl there, λ k. far (Pin i k) fault refl there)
