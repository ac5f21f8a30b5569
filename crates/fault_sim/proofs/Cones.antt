-- What a fault changes, gate by gate: gates that read no signal that differs have the values that they have without it.
use Rattle.std.proofs.Common.{◌≡◌, ◌≢◌, ℕ, zero, suc, ◌+◌, ◌-◌, ◌*◌, ◌/◌, ◌<◌, ◌≤◌, Bool, true, false, not, cond, ◌&&◌, ◌||◌, inl, inr, List, length, set, refl, sym, ap, ap₂, ◌∙◌, subst, eqb, eqb-true, eq-eqb, ne_eqb, arith, add-one}
use Rattle.std.specs.Prelude.{◌↔◌, Option, Some, None, slice_get, slice_index, slice_index_or}
use Rattle.std.proofs.lemmas.Bool.{false≢true, cases_Bool, cases_eq, cases_lt, and_parts, and_from, lt-ltb, false_from_ne_true}
use Rattle.std.specs.Global.{Vec}
use Rattle.std.specs.Vec.{with_items}
use Rattle.std.proofs.lemmas.List.{with_items_is, get_or-set_same, get_or-set_other, get_or_default}
use Rattle.std.proofs.lemmas.Option.{slice_get_within, slice_get-get_or}
use Rattle.ae_base.specs.Mask.{Set, differ, has, where_below}
use Rattle.ae_base.proofs.Below.{where_below_agree}
use Rattle.ae_base.proofs.Sets.{has-where_below}
use Rattle.ae_net.specs.declared.net.Gate.{Gate}
use Rattle.ae_net.specs.declared.net.Place.{Place}
use Rattle.ae_net.specs.declared.net.Place.TheVariants.{Stem, Pin, Port}
use Rattle.ae_net.specs.declared.net.Fault.{Fault}
use Rattle.ae_net.specs.Network.{Network, signals, gate_at}
use Rattle.ae_net.specs.Run.{table, same_place, seen, value_of, ones_seen, IsRun, ports_of}
use Rattle.ae_net.specs.Out.{out, HasOneRun}
use Rattle.ae_net.specs.Valid.{IsValid}
use Rattle.fault_sim.specs.declared.cone.Cone.{Cone}
use Rattle.fault_sim.specs.declared.words.TheConstants.{LANES}
use Rattle.fault_sim.specs.Lanes.{each_below, sees, port_differs, HasRun, IsElsewhere, IsFree, IsGood, IsFaulty, IsNext, ReadsGood, Tells}
use Rattle.fault_sim.specs.Marks.{IsAmong, IsFirstTaken, IsUnmarked, is_marked}
use Rattle.fault_sim.specs.Polynomials.{IsPolynomial, value}
use Rattle.fault_sim.specs.declared.polynomial.Polynomial.{Polynomial}
use Rattle.fault_sim.proofs.MarkWords.{neither, only_new}
use Rattle.fault_sim.specs.Spread.{AreChanged, AreMarks, AreReaders, IsAtRest, IsPut, IsSpread, row}

pub there_at : (n : Network) (i : ℕ) → i < length n.gates → slice_get n.gates i ≡ Some (gate_at n i)
there_at n i l = slice_get-get_or n.gates i _ l

-- ---- one gate

-- at another place nothing changes
other_place : (fault : Fault) (at : Place) (b : Bool) → same_place fault.place at ≡ false → seen (Some fault) at b ≡ b
other_place fault at b other = ap (λ t. cond t fault.value b) other

free-stem : (n : Network) (fault : Option Fault) (i : ℕ) (b : Bool) → IsElsewhere n fault i → seen fault (Stem (length n.inputs + i)) b ≡ b
free-stem n None i b far = refl
free-stem n (Some fault) i b far = other_place fault (Stem (length n.inputs + i)) b far.0

free-pin : (n : Network) (fault : Option Fault) (i k : ℕ) (b : Bool) → IsElsewhere n fault i → seen fault (Pin i k) b ≡ b
free-pin n None i k b far = refl
free-pin n (Some fault) i k b far = other_place fault (Pin i k) b (far.1 k)

-- a gate at which there is no fault has its value in the run where its pins see those of the signals that they read
free-table : (n : Network) (fault : Option Fault) (x : Set) (v : List Bool) (i : ℕ) (gate : Gate) → slice_get n.gates i ≡ Some gate → IsElsewhere n fault i → IsRun n fault x v
    → table gate (where_below (length gate.pins) (λ k. value_of v (slice_index gate.pins k))) ≡ value_of v (length n.inputs + i)
free-table n fault x v i gate there far run =
    ap (table gate) (where_below_agree (length gate.pins) _ _ (λ k lt. sym (free-pin n fault i k _ far)))
    ∙ sym (free-stem n fault i _ far)
    ∙ sym (run.gates i gate there)

pub free-lane : (n : Network) (fault : Option Fault) (x : Set) (v : List Bool) (i : ℕ) (gate : Gate) (l : ℕ) (words views : List ℕ) → IsValid n → slice_get n.gates i ≡ Some gate → IsElsewhere n fault i → IsRun n fault x v
    → ((k : ℕ) → k < length gate.pins → slice_index views k ≡ slice_index words (slice_index gate.pins k)) → HasRun v l (length n.inputs + i) words → table gate (where_below (length gate.pins) (sees views l)) ≡ value_of v (length n.inputs + i)
free-lane n fault x v i gate l words views valid there far run pins lanes =
    ap (table gate) (where_below_agree (length gate.pins) _ _ (λ k lt. ap (λ word. has word l) (pins k lt) ∙ lanes (slice_index gate.pins k) ((valid.gates i gate there).earlier k 0 lt)))
    ∙ free-table n fault x v i gate there far run

-- the signals of a gate's polynomial stand before it
pub polynomial-pin : (n : Network) (i s : ℕ) → IsValid n → i < length n.gates → IsAmong (gate_at n i).pins s → s < length n.inputs + i
polynomial-pin n i s valid within among = subst (λ s. s < length n.inputs + i) among.2 ((valid.gates i (gate_at n i) (there_at n i within)).earlier among.0 0 among.1)

-- a gate that the fault is not at has the value of its polynomial
pub polynomial-lane : (n : Network) (fault : Option Fault) (x : Set) (v : List Bool) (i : ℕ) (p : Polynomial) (l : ℕ) (words : List ℕ) → IsValid n → i < length n.gates → IsElsewhere n fault i → IsRun n fault x v → IsPolynomial (gate_at n i) p
    → HasRun v l (length n.inputs + i) words → value p (λ s. has (slice_index words s) l) ≡ value_of v (length n.inputs + i)
polynomial-lane n fault x v i p l words valid within far run is lanes =
    let gate = gate_at n i in
    let x_is = lanes p.x (polynomial-pin n i p.x valid within is.x) in
    let y_is = lanes p.y (polynomial-pin n i p.y valid within is.y) in
    ap₂ (λ a b. differ (differ p.one (differ (a && p.first) (b && p.second))) ((a && b) && p.product)) x_is y_is
    ∙ sym (is.value_is (value_of v))
    ∙ free-table n fault x v i gate (there_at n i within) far run

-- a gate with faults at it has its value in the run where its pins and its stem see those of the signals, but for the fault
pub held-lane : (n : Network) (fault : Option Fault) (x : Set) (v : List Bool) (i : ℕ) (gate : Gate) (l : ℕ) (words views : List ℕ) (told : Bool) → IsValid n → slice_get n.gates i ≡ Some gate → IsRun n fault x v
    → ((k : ℕ) → k < length gate.pins → has (slice_index views k) l ≡ seen fault (Pin i k) (has (slice_index words (slice_index gate.pins k)) l)) → HasRun v l (length n.inputs + i) words
    → told ≡ seen fault (Stem (length n.inputs + i)) (table gate (where_below (length gate.pins) (sees views l))) → told ≡ value_of v (length n.inputs + i)
held-lane n fault x v i gate l words views told valid there run pins lanes is =
    is
    ∙ ap (λ ones. seen fault (Stem (length n.inputs + i)) (table gate ones)) (where_below_agree (length gate.pins) _ _ (λ k lt. pins k lt ∙ ap (seen fault (Pin i k)) (lanes (slice_index gate.pins k) ((valid.gates i gate there).earlier k 0 lt))))
    ∙ sym (run.gates i gate there)

-- a gate at which the fault is not, and which reads no signal that differs
calm : (n : Network) (fault : Option Fault) (good words : List ℕ) (i : ℕ) (gate : Gate) (l : ℕ) (x : Set) (w v : List Bool) → IsValid n → slice_get n.gates i ≡ Some gate → IsElsewhere n fault i → ReadsGood good words gate → IsRun n None x w → IsRun n fault x v → HasRun w l (signals n) good → HasRun v l (length n.inputs + i) words
    → has (slice_index good (length n.inputs + i)) l ≡ value_of v (length n.inputs + i)
calm n fault good words i gate l x w v valid there far reads w_run v_run w_lane v_lane =
    w_lane (length n.inputs + i) (omega (arith, slice_get_within n.gates i gate there)) ∙ w_run.gates i gate there
    ∙ ap (table gate) (where_below_agree (length gate.pins) _ _ (λ k lt.
    let pin = slice_index gate.pins k in
    let before : pin < length n.inputs + i = (valid.gates i gate there).earlier k 0 lt in
    let within : pin < signals n = omega (arith, before, slice_get_within n.gates i gate there) in
    sym (w_lane pin within) ∙ ap (λ word. has word l) (sym (reads k lt)) ∙ v_lane pin before ∙ sym (free-pin n fault i k _ far)))
    ∙ sym (free-stem n fault i _ far)
    ∙ sym (v_run.gates i gate there)

-- ---- one gate more

pub more-lane : (v : List Bool) (l : ℕ) (words : List ℕ) (a m word : ℕ) → m ≡ a → m < length words → has word l ≡ value_of v a → HasRun v l a words → (s : ℕ) → s < suc a → has (slice_index (set words m word) s) l ≡ value_of v s
more-lane v l words a m word e room next lane s within =
    elim (cases_eq s m) [
      | inl same ↦ ap (λ t. has (slice_index (set words m word) t) l) same ∙ ap (λ u. has u l) (get_or-set_same words m word 0 room) ∙ next ∙ ap (value_of v) (sym e ∙ sym same)
      | inr ne ↦ ap (λ u. has u l) (get_or-set_other words m s word 0 ne) ∙ lane s (omega (arith, e, ne, within))
    ]

more-faulty : (n : Network) (faults : ℕ → Option Fault) (good words after : List ℕ) (i word : ℕ) → slice_index after (length n.inputs + i) ≡ word → ((t : ℕ) → t ≢ length n.inputs + i → slice_index after t ≡ slice_index words t)
    → IsNext n faults words (length n.inputs + i) word → IsFaulty n faults good (length n.inputs + i) words → IsFaulty n faults good (length n.inputs + (i + 1)) after
more-faulty n faults good words after i word is others next before l x w v lt w_run v_run w_lane s within =
    let lane = before l x w v lt w_run v_run w_lane in
    elim (cases_eq s (length n.inputs + i)) [
      | inl e ↦ ap (λ t. has (slice_index after t) l) e ∙ ap (λ u. has u l) is ∙ next l x v lt v_run lane ∙ ap (value_of v) (sym e)
      | inr ne ↦ ap (λ u. has u l) (others s ne) ∙ lane s (omega (arith, within, ne))
    ]

-- gates that read no signal that differs keep the words good
calm-faulty : (n : Network) (faults : ℕ → Option Fault) (good words : List ℕ) (i m : ℕ) → IsValid n → i + m ≤ length n.gates → ((j : ℕ) (gate : Gate) → slice_get n.gates j ≡ Some gate → i ≤ j → j < i + m → ReadsGood good words gate × IsFree n faults j)
    → ((s : ℕ) → length n.inputs + i ≤ s → slice_index words s ≡ slice_index good s) → IsFaulty n faults good (length n.inputs + i) words → IsFaulty n faults good (length n.inputs + (i + m)) words
calm-faulty n faults good words i zero valid within quiet rest before l x w v lt w_run v_run w_lane s h = before l x w v lt w_run v_run w_lane s (omega (arith, h))
calm-faulty n faults good words i (suc m) valid within quiet rest before l x w v lt w_run v_run w_lane s h =
    let earlier = calm-faulty n faults good words i m valid (omega (arith, within)) (λ j gate there from to. quiet j gate there from (omega (arith, to))) rest before l x w v lt w_run v_run w_lane in
    elim (cases_lt s (length n.inputs + (i + m))) [
      | inl less ↦ earlier s less
      | inr late ↦
          let e : s ≡ length n.inputs + (i + m) = omega (arith, h, late) in
          let there = there_at n (i + m) (omega (arith, within)) in
          let calm_here = quiet (i + m) (gate_at n (i + m)) there (omega arith) (omega arith) in
          ap (λ t. has (slice_index words t) l) e
          ∙ ap (λ u. has u l) (rest (length n.inputs + (i + m)) (omega arith))
          ∙ calm n (faults l) good words (i + m) (gate_at n (i + m)) l x w v valid there (calm_here.1 l lt) calm_here.0 w_run v_run w_lane earlier
          ∙ ap (value_of v) (sym e)
    ]

pub calm-to : (n : Network) (faults : ℕ → Option Fault) (good words : List ℕ) (i m : ℕ) → IsValid n → i ≤ m → m ≤ length n.gates → ((j : ℕ) (gate : Gate) → slice_get n.gates j ≡ Some gate → i ≤ j → j < m → ReadsGood good words gate × IsFree n faults j)
    → ((s : ℕ) → length n.inputs + i ≤ s → slice_index words s ≡ slice_index good s) → IsFaulty n faults good (length n.inputs + i) words → IsFaulty n faults good (length n.inputs + m) words
calm-to n faults good words i m valid up within quiet rest before l x w v lt w_run v_run w_lane s h =
    calm-faulty n faults good words i (m - i) valid (omega (arith, up, within)) (λ j gate there from to. quiet j gate there from (omega (arith, to, up))) rest before l x w v lt w_run v_run w_lane s (omega (arith, h, up))

-- ---- a word that is put

pub unmarked_before : (before after : Bool) → (before ≡ true → after ≡ true) → after ≡ false → before ≡ false
unmarked_before true after kept none = absurd (false≢true (sym none ∙ kept refl))
unmarked_before false after kept none = refl

pub put-quiet : (n : Network) (good : List ℕ) (readers : List (List ℕ)) (s word : ℕ) (before after : Cone) (k : ℕ) (gate : Gate) → AreReaders n readers → IsPut good (row readers s) s word before after → slice_index before.words.items s ≡ slice_index good s → slice_get n.gates k ≡ Some gate → is_marked after.marked.items k ≡ false
    → (is_marked before.marked.items k ≡ false → ReadsGood good before.words.items gate) → ReadsGood good after.words.items gate
put-quiet n good readers s word before after k gate are put same there none quiet p lt =
    elim (cases_eq (slice_index gate.pins p) s) [
      | inl e ↦ elim put.spread [
        | inl equal ↦ ap (slice_index after.words.items) e ∙ put.writes same ∙ equal ∙ ap (slice_index good) (sym e)
        | inr marks ↦
            let among : IsAmong (row readers s) k = subst (λ t. IsAmong (row readers t) k) e (are.each k gate p there lt) in
            absurd (false≢true (sym none ∙ ap (is_marked after.marked.items) (sym among.2) ∙ marks.1 among.0 among.1))
      ]
      | inr ne ↦ put.others (slice_index gate.pins p) ne ∙ quiet (unmarked_before _ _ (put.kept k) none) p lt
    ]

pub put-changed : (good readers : List ℕ) (s word : ℕ) (before after : Cone) → IsPut good readers s word before after → slice_index before.words.items s ≡ slice_index good s → AreChanged good before → AreChanged good after
put-changed good readers s word before after put same changed t none =
    elim (cases_eq t s) [
      | inl e ↦ elim put.spread [
        | inl equal ↦ ap (slice_index after.words.items) e ∙ put.writes same ∙ equal ∙ ap (slice_index good) (sym e)
        | inr marks ↦ absurd (false≢true (sym none ∙ ap (is_marked after.changed.items) e ∙ marks.0))
      ]
      | inr ne ↦ put.others t ne ∙ changed t (put.unchanged t none)
    ]

pub put-marks : (n : Network) (good : List ℕ) (readers : List (List ℕ)) (s word : ℕ) (before after : Cone) (j : ℕ) → AreReaders n readers → IsPut good (row readers s) s word before after → s < signals n → ((k : ℕ) → s < length n.inputs + k → j ≤ k) → AreMarks n before j → AreMarks n after j
put-marks n good readers s word before after j are put within late marks = record {
  marked = λ k set. elim (cases_Bool (is_marked before.marked.items k)) [
    | inl old ↦ marks.marked k old
    | inr new ↦ let later = are.later s k (put.only k set new) in (late k later.0, later.1)
  ];
  changed = λ t set. elim (cases_Bool (is_marked before.changed.items t)) [
    | inl old ↦ marks.changed t old
    | inr new ↦ omega (arith, put.changed t set new, within)
  ];
}

pub visited : (n : Network) (faults : ℕ → Option Fault) (good : List ℕ) (readers : List (List ℕ)) (i word : ℕ) (before after : Cone) → AreReaders n readers → IsNext n faults before.words.items (length n.inputs + i) word → IsPut good (row readers (length n.inputs + i)) (length n.inputs + i) word before after
    → IsSpread n faults good before i (i + 1) → IsSpread n faults good after (i + 1) (i + 1)
visited n faults good readers i word before after are next put spread =
    let same = spread.rest (length n.inputs + i) (omega arith) in record {
      faulty = more-faulty n faults good before.words.items after.words.items i word (put.writes same) put.others next spread.faulty;
      rest = λ s h. put.others s (omega (arith, h)) ∙ spread.rest s (omega (arith, h));
      quiet = λ k gate there from none.
          let old = unmarked_before _ _ (put.kept k) none in
          (put-quiet n good readers (length n.inputs + i) word before after k gate are put same there none (λ before. (spread.quiet k gate there from before).0), (spread.quiet k gate there from old).1);
      changed = put-changed good (row readers (length n.inputs + i)) (length n.inputs + i) word before after put same spread.changed;
    }

-- what `put` writes, where the word differs
pub written : (good list readers : List ℕ) (s word : ℕ) (before after : Cone) (marked changed marked_after changed_after : List ℕ) → readers ≡ list → marked ≡ before.marked.items → changed ≡ before.changed.items → after.marked.items ≡ marked_after → after.changed.items ≡ changed_after → s < length before.words.items → after.words.items ≡ set before.words.items s word
    → ((j : ℕ) → is_marked changed_after j ≡ (eqb j s || is_marked changed j)) → ((k : ℕ) → k < length readers → is_marked marked_after (slice_index readers k) ≡ true) → ((j : ℕ) → is_marked marked j ≡ true → is_marked marked_after j ≡ true)
    → ((j : ℕ) → is_marked marked_after j ≡ true → is_marked marked j ≡ false → IsAmong readers j) → IsPut good list s word before after
written good list readers s word before after marked changed marked_after changed_after same_list same_marked same_changed new_marked new_changed room words one each kept only = record {
  writes = λ same. ap (λ ws. slice_index ws s) words ∙ get_or-set_same before.words.items s word 0 room;
  others = λ t ne. ap (λ ws. slice_index ws t) words ∙ get_or-set_other before.words.items s t word 0 ne;
  kept = λ j old. ap (λ marks. is_marked marks j) new_marked ∙ kept j (ap (λ marks. is_marked marks j) same_marked ∙ old);
  only = λ j new none. subst (λ xs. IsAmong xs j) same_list (only j (ap (λ marks. is_marked marks j) (sym new_marked) ∙ new) (ap (λ marks. is_marked marks j) same_marked ∙ none));
  spread = inr (ap (λ marks. is_marked marks s) new_changed ∙ one s ∙ ap (λ b. b || is_marked changed s) (eq-eqb s s refl), subst (λ xs. (k : ℕ) → k < length xs → is_marked after.marked.items (slice_index xs k) ≡ true) same_list (λ k lt. ap (λ marks. is_marked marks (slice_index readers k)) new_marked ∙ each k lt));
  unchanged = λ t none. ap (λ marks. is_marked marks t) (sym same_changed) ∙ neither (eqb t s) (is_marked changed t) (sym (one t) ∙ ap (λ marks. is_marked marks t) (sym new_changed) ∙ none);
  changed = λ t new none. eqb-true t s (only_new (eqb t s) (is_marked changed t) (sym (one t) ∙ ap (λ marks. is_marked marks t) (sym new_changed) ∙ new) (ap (λ marks. is_marked marks t) same_changed ∙ none));
}

-- a cone at rest
pub rest-marks : (n : Network) (good : List ℕ) (cone : Cone) (j : ℕ) → IsAtRest good cone → AreMarks n cone j
rest-marks n good cone j rest = record { marked = λ k set. absurd (false≢true (sym (rest.marked k) ∙ set)); changed = λ s set. absurd (false≢true (sym (rest.changed s) ∙ set)) }

-- the gates that read a signal have a mark each
pub room_for_marks : (n : Network) (readers : List (List ℕ)) (cone : Cone) (s k d : ℕ) → AreReaders n readers → length n.gates ≤ 64 * length cone.marked.items → k < length (row readers s) → slice_index_or (row readers s) k d / 64 < length cone.marked.items
room_for_marks n readers cone s k d are room lt =
    let later = are.later s (slice_index_or (row readers s) k d) (k, lt, get_or_default (row readers s) k 0 d lt) in omega (arith, later.1, room)

-- ---- from one marked gate to the next, and past the last

pub advanced : (n : Network) (faults : ℕ → Option Fault) (good : List ℕ) (before after : Cone) (i m : ℕ) → IsValid n → i ≤ m → m < length n.gates → IsFirstTaken before.marked.items after.marked.items m → after.words.items ≡ before.words.items → after.changed.items ≡ before.changed.items → IsSpread n faults good before i i
    → IsSpread n faults good after m (m + 1)
advanced n faults good before after i m valid up within taken words changed spread = record {
  faulty = subst (IsFaulty n faults good (length n.inputs + m)) (sym words) (calm-to n faults good before.words.items i m valid up (omega (arith, within)) (λ j gate there from to. spread.quiet j gate there from (taken.first j to)) spread.rest spread.faulty);
  rest = λ s h. ap (λ ws. slice_index ws s) words ∙ spread.rest s (omega (arith, h, up));
  quiet = λ k gate there from none.
      let calm_here = spread.quiet k gate there (omega (arith, from, up)) (other_mark (is_marked before.marked.items k) _ (ne_eqb k m (λ e. omega (arith, e, from))) (sym (taken.rest k) ∙ none)) in
      (subst (λ ws. ReadsGood good ws gate) (sym words) calm_here.0, calm_here.1);
  changed = λ s none. ap (λ ws. slice_index ws s) words ∙ spread.changed s (ap (λ marks. is_marked marks s) (sym changed) ∙ none);
}
  where
    other_mark : (b t : Bool) → t ≡ false → (not t && b) ≡ false → b ≡ false
    other_mark b true other none = absurd (false≢true (sym other))
    other_mark b false other none = none

pub all-faulty : (n : Network) (faults : ℕ → Option Fault) (good : List ℕ) (cone : Cone) (i : ℕ) → IsValid n → IsUnmarked cone.marked.items → IsSpread n faults good cone i i → IsFaulty n faults good (signals n) cone.words.items
all-faulty n faults good cone i valid none spread =
    elim (cases_lt i (length n.gates)) [
      | inl less ↦ calm-to n faults good cone.words.items i (length n.gates) valid (omega (arith, less)) (omega arith) (λ j gate there from to. spread.quiet j gate there from (none j)) spread.rest spread.faulty
      | inr more ↦ λ l x w v lt w_run v_run w_lane s h. spread.faulty l x w v lt w_run v_run w_lane s (omega (arith, h, more))
    ]

-- ---- words made good again

pub restored-from : (before after : List ℕ) (s next : ℕ) → IsFirstTaken before after s → (t : ℕ) → t < s + 1 → is_marked after t ≡ false
restored-from before after s next taken t lt =
    elim (cases_eq t s) [
      | inl e ↦ taken.rest t ∙ ap (λ b. not b && is_marked before t) (eq-eqb t s e)
      | inr ne ↦ taken.rest t ∙ ap₂ (λ a b. not a && b) (ne_eqb t s ne) (taken.first t (omega (arith, lt, ne)))
    ]

pub restored-only : (before after : List ℕ) (s t : ℕ) → IsFirstTaken before after s → is_marked after t ≡ true → is_marked before t ≡ true
restored-only before after s t taken set = right_part (not (eqb t s)) (is_marked before t) (sym (taken.rest t) ∙ set)
  where
    right_part : (a b : Bool) → (a && b) ≡ true → b ≡ true
    right_part true b h = h
    right_part false b h = absurd (false≢true h)

pub restored-word : (good words marks after : List ℕ) (s t word : ℕ) → word ≡ slice_index good s → s < length words → IsFirstTaken marks after s → ((t : ℕ) → is_marked marks t ≡ false → slice_index words t ≡ slice_index good t) → is_marked after t ≡ false → slice_index (set words s word) t ≡ slice_index good t
restored-word good words marks after s t word is within taken same none =
    elim (cases_eq t s) [
      | inl e ↦ ap (slice_index (set words s word)) e ∙ get_or-set_same words s word 0 within ∙ is ∙ ap (slice_index good) (sym e)
      | inr ne ↦ get_or-set_other words s t word 0 ne ∙ same t (sym (taken.rest t ∙ ap (λ b. not b && is_marked marks t) (ne_eqb t s ne)) ∙ none)
    ]

pub rest_word : (good : List ℕ) (cone : Cone) → IsAtRest good cone → (s : ℕ) → slice_index cone.words.items s ≡ slice_index good s
rest_word good cone rest s = ap (λ ws. slice_index ws s) rest.words

-- ---- the ports

pub each_at : (n : ℕ) (p : ℕ → Bool) → each_below n p ≡ true → (k : ℕ) → k < n → p k ≡ true
each_at zero p h k l = absurd (omega (arith, l))
each_at (suc n) p h k l = elim (cases_eq k n) [ inl e ↦ ap p e ∙ (and_parts _ _ h).1 | inr other ↦ each_at n p ((and_parts _ _ h).0) k (omega (arith, l, other)) ]

pub each_from : (n : ℕ) (p : ℕ → Bool) → ((k : ℕ) → k < n → p k ≡ true) → each_below n p ≡ true
each_from zero p h = refl
each_from (suc n) p h = and_from _ _ (each_from n p (λ k l. h k (omega (arith, l)))) (h n (omega arith))

pub more-apart : (d : ℕ → Bool) (o : ℕ) → (not (each_below o (λ o. not (d o))) || d o) ≡ not (each_below (o + 1) (λ o. not (d o)))
more-apart d o = not_both (each_below o (λ o. not (d o))) (d o) ∙ ap (λ m. not (each_below m (λ o. not (d o)))) (sym (add-one o))
  where
    not_both : (a b : Bool) → (not a || b) ≡ not (a && not b)
    not_both true true = refl
    not_both true false = refl
    not_both false b = refl

same_when : (a b : Bool) → not (differ a b) ≡ true → a ≡ b
same_when true true h = refl
same_when true false h = absurd (false≢true h)
same_when false true h = absurd (false≢true h)
same_when false false h = refl

when_same : (a b : Bool) → a ≡ b → not (differ a b) ≡ true
when_same true b h = ap (λ c. not (differ true c)) (sym h)
when_same false b h = ap (λ c. not (differ false c)) (sym h)

-- tests with equal sets agree
same_below : (n : ℕ) (p q : ℕ → Bool) → where_below n p ≡ where_below n q → (k : ℕ) → k < n → p k ≡ q k
same_below n p q e k l =
    ap (λ b. b && p k) (sym (lt-ltb k n l)) ∙ sym (has-where_below n p k) ∙ ap (λ s. has s k) e ∙ has-where_below n q k ∙ ap (λ b. b && q k) (lt-ltb k n l)

-- the ports differ in a lane exactly where some word shows it
pub ports-tell : (n : Network) (fault : Option Fault) (good words : List ℕ) (l : ℕ) (w v : List Bool) → IsValid n → HasRun w l (signals n) good → HasRun v l (signals n) words
    → (each_below (length n.outputs) (λ o. not (port_differs n.outputs fault good words l o)) ≡ true) ↔ (ports_of n fault v ≡ ports_of n None w)
ports-tell n fault good words l w v valid w_lane v_lane = (
  λ all. where_below_agree (length n.outputs) _ _ (λ o lt.
      ap (seen fault (Port o)) (sym (v_lane (slice_index n.outputs o) ((valid.ports o 0 lt).1)))
      ∙ same_when _ _ (each_at (length n.outputs) (λ o. not (port_differs n.outputs fault good words l o)) all o lt)
      ∙ w_lane (slice_index n.outputs o) ((valid.ports o 0 lt).1)),
  λ same. each_from (length n.outputs) (λ o. not (port_differs n.outputs fault good words l o)) (λ o lt.
      when_same _ _
      (ap (seen fault (Port o)) (v_lane (slice_index n.outputs o) ((valid.ports o 0 lt).1))
      ∙ same_below (length n.outputs) (λ o. seen fault (Port o) (value_of v (slice_index n.outputs o))) (λ o. value_of w (slice_index n.outputs o)) same o lt
      ∙ sym (w_lane (slice_index n.outputs o) ((valid.ports o 0 lt).1)))),
)

-- so the lanes tell where the fault of each is detected
pub lanes-tell : (n : Network) (faults : ℕ → Option Fault) (good words : List ℕ) (told : ℕ) → IsValid n → ((h : Option Fault) (x : Set) → HasOneRun n h x) → ((h : Option Fault) (x : Set) (w : List Bool) → IsRun n h x w → out n h x ≡ ports_of n h w)
    → IsFaulty n faults good (signals n) words → ((l : ℕ) → l < LANES → has told l ≡ not (each_below (length n.outputs) (λ o. not (port_differs n.outputs (faults l) good words l o)))) → Tells n faults good told
lanes-tell n faults good words told valid runs outs faulty is l x lt is_good =
    let fault = faults l in
    let w = runs None x in
    let v = runs fault x in
    let w_lane = is_good w.0 w.1 in
    let v_lane = faulty l x w.0 v.0 lt w.1 v.1 w_lane in
    let tell = ports-tell n fault good words l w.0 v.0 valid w_lane v_lane in
    let told_is : has told l ≡ not (each_below (length n.outputs) (λ o. not (port_differs n.outputs fault good words l o))) = is l lt in (
      λ set equal. false≢true (sym (told_is ∙ ap not (tell.1 (sym (outs fault x v.0 v.1) ∙ equal ∙ outs None x w.0 w.1))) ∙ set),
      λ differs. told_is ∙ ap not (false_from_ne_true _ (λ all. differs (outs fault x v.0 v.1 ∙ tell.0 all ∙ sym (outs None x w.0 w.1)))),
    )

-- what the ports show in a lane without a fault
pub lane-out : (n : Network) (x : Set) (l : ℕ) (words : List ℕ) → IsValid n → HasOneRun n None x → ((w : List Bool) → IsRun n None x w → out n None x ≡ ports_of n None w) → IsGood n x l words → where_below (length n.outputs) (λ o. has (slice_index words (slice_index n.outputs o)) l) ≡ out n None x
lane-out n x l words valid (w, run, only) outs is_good = where_below_agree (length n.outputs) _ _ (λ o lt. is_good w run (slice_index n.outputs o) ((valid.ports o 0 lt).1)) ∙ sym (outs w run)
