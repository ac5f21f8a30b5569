-- What a simulation says of a signal holds in the runs at every point of the subcube. Whether a leaf holds can be worked out, and where all
-- inputs are known it holds exactly where its point does not detect the fault.
use Rattle.std.proofs.Common.{◌≡◌, ℕ, zero, suc, ◌+◌, ◌<◌, Bool, true, false, cond, inl, inr, List, length, refl, sym, ap, ap₂, ◌∙◌, arith, ltb, eqb, eqb-true, ◌≤◌, not, ◌&&◌, subst}
use Rattle.std.specs.Prelude.{Option, Some, None, is_some, slice_get, slice_index, ◌⊎◌, All}
use Rattle.std.proofs.lemmas.Bool.{false≢true, cases_Bool, cases_eq, and_parts, or_cases, ltb-true, and_from, or_left, or_right, lt-ltb, cond-true, not-true}
use Rattle.std.proofs.lemmas.Option.{none-some, slice_get_within, get_or_from_slice_get}
use Rattle.ae_base.specs.Mask.{Set, has, where_below, differ}
use Rattle.ae_base.proofs.Below.{where_below_agree}
use Rattle.ae_net.specs.declared.net.Gate.{Gate}
use Rattle.ae_net.specs.declared.net.Place.{Place}
use Rattle.ae_net.specs.declared.net.Place.TheVariants.{Stem, Pin, Port}
use Rattle.ae_net.specs.declared.net.Fault.{Fault}
use Rattle.ae_net.specs.Detects.{Detects}
use Rattle.ae_net.specs.Evaluation.{Domain, IsEvaluation, IsKept, HoldsAtEach, HoldsWhereKept, HasOneEvaluation}
use Rattle.ae_net.specs.Network.{Network, signals}
use Rattle.ae_net.specs.Out.{HasOneRun}
use Rattle.ae_net.specs.Run.{table, same_place, seen, value_of, IsRun, ports_of}
use Rattle.ae_net.specs.Valid.{IsValid, IsRowOf}
use Rattle.redundancy.specs.declared.lines.Line.{Line}
use Rattle.redundancy.specs.declared.lines.Subcube.{Subcube}
use Rattle.redundancy.specs.Leaf.{IsIn, line_at, port_line, IsUntouched, LeafHolds}
use Rattle.redundancy.specs.Leaves.{IsAs, IsSound, SoundFor, AreKnown, LeafTells}
use Rattle.redundancy.specs.Simulation.{Known, each_below, known_pins, known_table, held, input_line, gate_line, line_of, IsSimulation}
use Rattle.redundancy.specs.Worked.{known_lines, lines_in, is_known, are_same, is_untouched, holds_by, leaf_holds}
use Rattle.redundancy.proofs.Simulated.{evaluation-of_simulation, only_simulation, IsSimulation-lines_in}
use Rattle.redundancy.proofs.Tables.{table-known, table-decided}
use Rattle.ae_base.proofs.Sets.{has-where_below}
use Rattle.ae_base.proofs.Truth.{differ-same, equal_values}

-- ---- one line

held-sound : (fault : Fault) (at : Place) (l : Line) (a b : Bool) → IsSound l a b → IsSound (held fault at l) (seen None at a) (seen (Some fault) at b)
held-sound fault at l a b s = elim (cases_Bool (same_place fault.place at)) [
  | inl t ↦ rw t (record { good = s.good; faulty = λ c e. cc; quiet = λ q. absurd (false≢true q) })
  | inr t ↦ rw t s
]

known_when : (t v a : Bool) → (t ≡ true → a ≡ v) → IsAs (cond t (Some v) None) a
known_when true v a h c e = h refl ∙ cc
known_when false v a h c e = absurd (let s : ⊥ = cc in s)

input-sound : (d : Subcube) (x : Set) (j : ℕ) → IsIn x d → IsSound (input_line d j) (has x j) (has x j)
input-sound d x j within =
    let known : IsAs (cond (ltb j d.depth) (Some (has d.point j)) None) (has x j) = known_when (ltb j d.depth) (has d.point j) (has x j) (λ t. within j (ltb-true j d.depth t)) in
    record { good = known; faulty = known; quiet = λ q. refl }

pub each_at : (n : ℕ) (p : ℕ → Bool) → each_below n p ≡ true → (k : ℕ) → k < n → p k ≡ true
each_at zero p h k l = absurd (omega (arith, l))
each_at (suc n) p h k l = elim (cases_eq k n) [ inl e ↦ ap p e ∙ (and_parts _ _ h).0 | inr other ↦ each_at n p ((and_parts _ _ h).1) k (omega arith) ]

abbrev alone : Line → Known
alone l = cond l.quiet l.good None

alone_as : (l : Line) (v : Bool) → (l.quiet ≡ true → IsAs l.good v) → IsAs (alone l) v
alone_as l v h c e = elim (cases_Bool l.quiet) [ inl q ↦ h q c (rw q at e) | inr q ↦ absurd (none-some c (rw q at e)) ]

some_known : (k : Option Bool) → is_some k ≡ true → (c : Bool) × (k ≡ Some c)
some_known None h = absurd (false≢true h)
some_known (Some c) h = (c, refl)

gate-sound : (gate : Gate) (p : ℕ → Line) (a b : ℕ → Bool) → ((k : ℕ) → k < length gate.pins → IsSound (p k) (a k) (b k)) → IsSound (gate_line gate p) (table gate (where_below (length gate.pins) a)) (table gate (where_below (length gate.pins) b))
gate-sound gate p a b h =
    let n = length gate.pins in
    record {
      good = table-known gate n (λ k. (p k).good) a (λ k l. (h k l).good);
      faulty = table-known gate n (λ k. (p k).faulty) b (λ k l. (h k l).faulty);
      quiet = λ q. elim (or_cases _ _ q) [
        | inl all ↦ ap (table gate) (where_below_agree n b a (λ k l. (h k l).quiet (each_at n (λ k. (p k).quiet) all k l)))
        | inr some ↦
            let known = some_known _ some in
            table-known gate n (λ k. alone (p k)) b (λ k l. alone_as (p k) (b k) (λ q c e. (h k l).quiet q ∙ (h k l).good c e)) known.0 known.1
            ∙ sym (table-known gate n (λ k. alone (p k)) a (λ k l. alone_as (p k) (a k) (λ q. (h k l).good)) known.0 known.1)
      ];
    }

-- ---- places

same-place-is : (p q : Place) → same_place p q ≡ true → p ≡ q
same-place-is (Stem s) (Stem t) h = ap (λ s. Stem s) (eqb-true s t h)
same-place-is (Pin i k) (Pin j l) h = let both = and_parts (eqb i j) (eqb k l) h in ap₂ (λ i k. Pin i k) (eqb-true i j (both.0)) (eqb-true k l (both.1))
same-place-is (Port o) (Port p) h = ap (λ o. Port o) (eqb-true o p h)
same-place-is _ _ h = absurd (false≢true h)

-- a place whose value is the stuck value already sees the same with the fault
seen_inactive : (fault : Fault) (at : Place) (a b : Bool) → (same_place fault.place at ≡ true → a ≡ fault.value) → b ≡ a → seen (Some fault) at b ≡ a
seen_inactive fault at a b h e = elim (cases_Bool (same_place fault.place at)) [ inl t ↦ rw t (sym (h t)) | inr t ↦ rw t e ]

-- ---- all signals, at a point of the subcube

-- pairs of truth values at a point, without the fault and with it
abbrev pairs : Fault → Set → Domain (Bool × Bool)
pairs fault x = record {
  nothing = (false, false);
  input = λ j. (has x j, has x j);
  table = λ gate sees. (table gate (where_below (length gate.pins) (λ k. (sees k).0)), table gate (where_below (length gate.pins) (λ k. (sees k).1)));
  seen = λ at v. (seen None at v.0, seen (Some fault) at v.1);
}

module _ (n : Network) (fault : Fault) (d : Subcube) (x : Set) (lines : List Line) (w v : List Bool) (law : HoldsWhereKept SoundFor) (valid : IsValid n) (sim : IsSimulation n fault d lines) (within : IsIn x d) (good : IsRun n None x w) (faulty : IsRun n (Some fault) x v) where
  pub each-sound : HoldsAtEach SoundFor n (known_lines fault d) (pairs fault x) (line_of lines) (λ s. (value_of w s, value_of v s))
  each-sound = law n (known_lines fault d) (pairs fault x) (line_of lines) (λ s. (value_of w s, value_of v s)) valid (record {
    inputs = λ j l. input-sound d x j within;
    tables = λ s gate is p q h. gate-sound gate p (λ k. (q k).0) (λ k. (q k).1) h;
    places = λ at l v h. held-sound fault at l v.0 v.1 h;
  }) (evaluation-of_simulation n fault d lines sim) (record {
    inputs = λ j l. ap₂ (λ a b. (a, b)) (good.inputs j l) (faulty.inputs j l);
    gates = λ i gate there. ap₂ (λ a b. (a, b)) (good.gates i gate there) (faulty.gates i gate there);
  })

  -- the fault's line has the stuck value without the fault
  abbrev IsInactive : Type 0
  IsInactive = (line_at n lines fault.place).good ≡ Some fault.value

  site_value : IsInactive → (s : ℕ) → s < signals n → line_at n lines fault.place ≡ line_of lines s → value_of w s ≡ fault.value
  site_value known s l e = (each-sound.signals s l).good fault.value (ap (λ k. k.good) (sym e) ∙ known)

  stem_site : IsInactive → (s : ℕ) → s < signals n → same_place fault.place (Stem s) ≡ true → value_of w s ≡ fault.value
  stem_site known s l e = site_value known s l (ap (line_at n lines) (same-place-is fault.place (Stem s) e))

  -- the run without the fault is then one with it
  inactive_run : IsInactive → IsRun n (Some fault) x w
  inactive_run known = record {
    all = good.all;
    inputs = λ j l. good.inputs j l ∙ sym (seen_inactive fault (Stem j) (has x j) (has x j) (λ e. sym (good.inputs j l) ∙ stem_site known j (omega arith) e) refl);
    gates = λ i gate there.
        good.gates i gate there
        ∙ sym (seen_inactive fault (Stem (length n.inputs + i)) _ _ (λ e. sym (good.gates i gate there) ∙ stem_site known (length n.inputs + i) (omega (arith, slice_get_within n.gates i gate there)) e)
        (ap (table gate) (where_below_agree (length gate.pins) _ _ (λ k l.
        seen_inactive fault (Pin i k) _ _ (λ e. site_value known (slice_index gate.pins k) (omega (arith, (valid.gates i gate there).earlier k 0 l, slice_get_within n.gates i gate there))
        (ap (line_at n lines) (same-place-is fault.place (Pin i k) e) ∙ ap (λ g. line_of lines (slice_index g.pins k)) (get_or_from_slice_get n.gates i gate _ there))) refl))));
  }

  -- what the leaf shows leaves each port as it is without the fault
  pub ports_same : HasOneRun n (Some fault) x → ((line_at n lines fault.place).good ≡ Some fault.value) ⊎ ((o : ℕ) → o < length n.outputs → IsUntouched (port_line n fault lines o)) → ports_of n (Some fault) v ≡ ports_of n None w
  ports_same run (inl known) =
      let same : v ≡ w = run.2 v faulty ∙ sym (run.2 w (inactive_run known)) in
      where_below_agree (length n.outputs) _ _ (λ o l.
      seen_inactive fault (Port o) _ _ (λ e. site_value known (slice_index n.outputs o) ((valid.ports o 0 l).1) (ap (line_at n lines) (same-place-is fault.place (Port o) e))) (ap (λ u. value_of u (slice_index n.outputs o)) same))
  ports_same run (inr untouched) = where_below_agree (length n.outputs) _ _ (λ o l. elim (untouched o l) [
    | inl quiet ↦ (each-sound.ports o l).quiet quiet
    | inr (b, g, h) ↦ (each-sound.ports o l).faulty b h ∙ sym ((each-sound.ports o l).good b g)
  ])

-- a leaf that holds covers every point in it
pub leaf-covers : (n : Network) (fault : Fault) (d : Subcube) (x : Set) → HoldsWhereKept SoundFor → HasOneRun n (Some fault) x → IsValid n → LeafHolds n fault d → IsIn x d → Detects n fault x → ⊥
leaf-covers n fault d x law run valid leaf within detects =
    detects.differ
    (detects.shows_faulty.ports
    ∙ ports_same n fault d x leaf.lines detects.shows_good.run detects.shows_faulty.run law valid leaf.is_simulation within detects.shows_good.is_run detects.shows_faulty.is_run run leaf.shows_nothing
    ∙ sym detects.shows_good.ports)

each_from : (n : ℕ) (p : ℕ → Bool) → ((k : ℕ) → k < n → p k ≡ true) → each_below n p ≡ true
each_from zero p h = refl
each_from (suc n) p h = and_from _ _ (h n (omega arith)) (each_from n p (λ k l. h k (omega arith)))

-- ---- a test tells what is known

known_is : (b : Bool) (k : Option Bool) → is_known b k ≡ true → k ≡ Some b
known_is b None h = absurd (false≢true h)
known_is b (Some c) h = ap Some (sym (equal_values b c (not-true _ h)))

known_at : (b : Bool) (k : Option Bool) → k ≡ Some b → is_known b k ≡ true
known_at b k e = ap (is_known b) e ∙ ap not (differ-same b)

same_is : (g h : Option Bool) → are_same g h ≡ true → (b : Bool) × (g ≡ Some b) × (h ≡ Some b)
same_is None h e = absurd (false≢true e)
same_is (Some b) h e = (b, refl, known_is b h e)

same_at : (b : Bool) (g h : Option Bool) → g ≡ Some b → h ≡ Some b → are_same g h ≡ true
same_at b g h e f = ap (λ k. are_same k h) e ∙ known_at b h f

untouched_is : (l : Line) → is_untouched l ≡ true → IsUntouched l
untouched_is l h = elim (or_cases _ _ h) [ inl quiet ↦ inl quiet | inr same ↦ inr (same_is l.good l.faulty same) ]

untouched_at : (l : Line) → IsUntouched l → is_untouched l ≡ true
untouched_at l (inl quiet) = or_left _ _ quiet
untouched_at l (inr (b, e, f)) = or_right _ _ (same_at b l.good l.faulty e f)

-- ---- a leaf holds exactly where its lines say so

holds_from : (n : Network) (fault : Fault) (lines : List Line) → ((line_at n lines fault.place).good ≡ Some fault.value) ⊎ ((o : ℕ) → o < length n.outputs → IsUntouched (port_line n fault lines o)) → holds_by n fault lines ≡ true
holds_from n fault lines (inl known) = or_left _ _ (known_at fault.value _ known)
holds_from n fault lines (inr untouched) = or_right _ _ (each_from (length n.outputs) _ (λ o l. untouched_at (port_line n fault lines o) (untouched o l)))

module _ (n : Network) (fault : Fault) (d : Subcube) (one : HasOneEvaluation (known_lines fault d) n) where
  LeafHolds-worked : leaf_holds n fault d ≡ true → LeafHolds n fault d
  unfolding leaf_holds
  LeafHolds-worked h = record {
    lines = lines_in n fault d;
    is_simulation = IsSimulation-lines_in n fault d one;
    shows_nothing = elim (or_cases _ _ h) [
      | inl known ↦ inl (known_is fault.value _ known)
      | inr all ↦ inr (λ o l. untouched_is (port_line n fault (lines_in n fault d) o) (each_at (length n.outputs) (λ o. is_untouched (port_line n fault (lines_in n fault d) o)) all o l))
    ];
  }

  worked-LeafHolds : LeafHolds n fault d → leaf_holds n fault d ≡ true
  unfolding leaf_holds
  worked-LeafHolds leaf = subst (λ lines. holds_by n fault lines ≡ true) (only_simulation n fault d one leaf.lines leaf.is_simulation) (holds_from n fault leaf.lines leaf.shows_nothing)

-- ---- where all inputs are known

-- tests with equal sets agree
same_below : (n : ℕ) (p q : ℕ → Bool) → where_below n p ≡ where_below n q → (k : ℕ) → k < n → p k ≡ q k
same_below n p q e k l =
    ap (λ b. b && p k) (sym (lt-ltb k n l)) ∙ sym (has-where_below n p k) ∙ ap (λ s. has s k) e ∙ has-where_below n q k ∙ ap (λ b. b && q k) (lt-ltb k n l)

untouched_known : (l : Line) (a b : Bool) → AreKnown l → IsSound l a b → b ≡ a → is_untouched l ≡ true
untouched_known l a b ((g, e), (h, f)) s same = or_right _ _ (same_at g l.good l.faulty e (f ∙ ap Some (sym (s.faulty h f) ∙ same ∙ s.good g e)))

known_kept : (n : Network) (fault : Fault) (d : Subcube) → length n.inputs ≤ d.depth → IsKept (λ (l m : Line). AreKnown l) n (known_lines fault d) (known_lines fault d)
known_kept n fault d full = record {
  inputs = λ j l. let e = cond-true (ltb j d.depth) (Some (has d.point j)) None (lt-ltb j d.depth (omega arith)) in ((has d.point j, e), (has d.point j, e));
  tables = λ s gate is p q h.
      let rows = is.rows in
      (table-decided gate (length gate.pins) (λ k. (p k).good) (λ k l. (h k l).0) rows, table-decided gate (length gate.pins) (λ k. (p k).faulty) (λ k l. (h k l).1) rows);
  places = λ at l m h. elim (cases_Bool (same_place fault.place at)) [ inl t ↦ rw t (h.0, (fault.value, refl)) | inr t ↦ rw t h ];
}

-- what the laws of ae_net say of lines
pub record Laws (n : Network) (fault : Fault) : Type 0 where
  pub runs : (h : Option Fault) (x : Set) → HasOneRun n h x
  pub lines : (d : Subcube) → HasOneEvaluation (known_lines fault d) n
  pub sound : HoldsWhereKept SoundFor
  pub known : HoldsWhereKept (λ (l m : Line). AreKnown l)

module _ (n : Network) (fault : Fault) (d : Subcube) (valid : IsValid n) (laws : Laws n fault) where
  -- where the ports show the same, the leaf holds
  holds_where_same : length n.inputs ≤ d.depth → (w v : List Bool) → IsRun n None d.point w → IsRun n (Some fault) d.point v → ports_of n (Some fault) v ≡ ports_of n None w → leaf_holds n fault d ≡ true
  unfolding leaf_holds
  holds_where_same full w v good faulty same =
      let lines = lines_in n fault d in
      let sim : IsSimulation n fault d lines = IsSimulation-lines_in n fault d (laws.lines d) in
      let is = evaluation-of_simulation n fault d lines sim in
      let known = laws.known n (known_lines fault d) (known_lines fault d) (line_of lines) (line_of lines) valid (known_kept n fault d full) is is in
      or_right _ _
      (each_from (length n.outputs) _ (λ o l.
      untouched_known (port_line n fault lines o) _ _ (known.ports o l)
      ((each-sound n fault d d.point lines w v laws.sound valid sim (λ j m. refl) good faulty).ports o l)
      (same_below (length n.outputs) (λ o. seen (Some fault) (Port o) (value_of v (slice_index n.outputs o))) (λ o. value_of w (slice_index n.outputs o)) same o l)))

  -- a leaf that does not hold
  point-detects : length n.inputs ≤ d.depth → leaf_holds n fault d ≡ false → Detects n fault d.point
  point-detects full unheld =
      let good = laws.runs None d.point in
      let faulty = laws.runs (Some fault) d.point in
      record {
        good = ports_of n None good.0;
        shows_good = record { run = good.0; is_run = good.1; ports = refl };
        faulty = ports_of n (Some fault) faulty.0;
        shows_faulty = record { run = faulty.0; is_run = faulty.1; ports = refl };
        differ = λ e. false≢true (sym unheld ∙ holds_where_same full good.0 faulty.0 good.1 faulty.1 e);
      }

  pub leaf_tells : LeafTells n fault d
  leaf_tells = record {
    worked = (LeafHolds-worked n fault d (laws.lines d), worked-LeafHolds n fault d (laws.lines d));
    covers = λ leaf x within. leaf-covers n fault d x laws.sound (laws.runs (Some fault) x) valid leaf within;
    detects = point-detects;
  }

-- where all inputs are known, a leaf holds exactly where its point does not detect the fault
pub full-leaf : (n : Network) (fault : Fault) (d : Subcube) → LeafTells n fault d → length n.inputs ≤ d.depth → (Detects n fault d.point → ⊥) → LeafHolds n fault d
full-leaf n fault d tells full none = elim (cases_Bool (leaf_holds n fault d)) [ inl held ↦ tells.worked.0 held | inr unheld ↦ absurd (none (tells.detects full unheld)) ]

pub leaf-full : (n : Network) (fault : Fault) (d : Subcube) → LeafTells n fault d → LeafHolds n fault d → Detects n fault d.point → ⊥
leaf-full n fault d tells leaf = tells.covers leaf d.point (λ j l. refl)
