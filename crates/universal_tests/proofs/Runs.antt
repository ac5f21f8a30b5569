-- A fault in one gate: the signals before it and the tables of the other gates are as without it. The Reddy network with such a fault,
-- beside the network without it.
use Rattle.std.proofs.Common.{Bool, List, [], ap, arith, eq-eqb, eqb, false, inl, inr, length, ne_eqb, not, refl, subst, suc, sym, true, zero, zero-add, ℕ, ◌&&◌, ◌++◌, ◌+◌, ◌<◌, ◌∙◌, ◌∷◌, ◌≡◌, ◌≢◌, ◌≤◌}
use Rattle.std.specs.List.{list_any}
use Rattle.std.specs.Prelude.{Contains, None, Option, Some, slice_get, slice_index}
use Rattle.std.proofs.lemmas.Bool.{cases_Bool, cases_eq, false≢true, lt-ltb}
use Rattle.std.proofs.lemmas.List.Elements.{All-from_recursion}
use Rattle.std.proofs.lemmas.Option.{slice_get_within}
use Rattle.ae_base.specs.Mask.{Set, differ, empty, first, has, inside, members}
use Rattle.ae_base.specs.Terms.{exor_of, product}
use Rattle.ae_base.proofs.Below.{where_below_agree}
use Rattle.ae_base.proofs.Distinct.{each_always, each_weaker}
use Rattle.ae_base.proofs.EachAt.{EachAt, EachAt-from_get, EachAt-weaker}
use Rattle.ae_base.proofs.Members.{first_member}
use Rattle.ae_base.proofs.Sets.{has-where_below, inside-below}
use Rattle.ae_net.specs.Faults.{pins}
use Rattle.ae_net.specs.Follows.{Fits, Follows}
use Rattle.ae_net.specs.Lead.{lead}
use Rattle.ae_net.specs.Names.{Names}
use Rattle.ae_net.specs.Network.{Network, gate_at}
use Rattle.ae_net.specs.Out.{Differs, out, run, run_to}
use Rattle.ae_net.specs.Run.{IsRun, ones_seen, seen, table, value_of}
use Rattle.ae_net.specs.declared.net.Fault.{Fault}
use Rattle.ae_net.specs.declared.net.Gate.{Gate}
use Rattle.ae_net.specs.declared.net.Place.TheVariants.{Pin, Port, Stem}
use Rattle.ae_net.proofs.Runs.{IsRun-run, map_range_agree, ones_seen_agree, value_final}
use Rattle.expansion.specs.Terms.{Terms, used_inputs}
use Rattle.cascade.specs.Reddy.{and_place, chain_place, ends, gates, has_one, is_wide, lines, literal_signal, place_of, rest, start, term_signal, turned, wide_terms}
use Rattle.cascade.specs.Shows.{CanBuild, reddy_net}
use Rattle.cascade.proofs.Law.{Built, EachAt-gates_for, Literals, Shows, Stands, and_of, built, shows, used_since, value-literal, value-port, value-start, value-term, wide_stands}
use Rattle.cascade.proofs.Valid.{MayRead, inputs_are, length-outputs, literal_read, literals_read, valid}
use Rattle.universal_tests.specs.Sites.{IsDetected}
use Rattle.universal_tests.specs.Universal.{universal_vectors}

-- the fault is not in gate i; m inputs stand before the gates
abbrev pub Quiet : Option Fault → ℕ → ℕ → Type 0
Quiet fault m i = ((b : Bool) → seen fault (Stem (m + i)) b ≡ b) × ((q : ℕ) (b : Bool) → seen fault (Pin i q) b ≡ b)

-- the fault is in gate p: in no other gate, at no input and at no port
pub record InGate (fault : Option Fault) (m p : ℕ) : Type 0 where
  pub inputs : (j : ℕ) → j < m → (b : Bool) → seen fault (Stem j) b ≡ b
  pub others : (i : ℕ) → (i ≢ p) → Quiet fault m i
  pub ports : (o : ℕ) (b : Bool) → seen fault (Port o) b ≡ b

abbrev pub held : ℕ → ℕ → Bool → Option Fault
held m p v = Some (record { place = Stem (m + p); value = v })

abbrev pub stuck : ℕ → ℕ → Bool → Option Fault
stuck p q v = Some (record { place = Pin p q; value = v })

pub InGate-stem : (m p : ℕ) (v : Bool) → InGate (held m p v) m p
InGate-stem m p v = record {
  inputs = λ j l b. rw (ne_eqb (m + p) j (λ e. absurd (omega arith))) refl;
  others = λ i other. ((λ b. rw (ne_eqb (m + p) (m + i) (λ e. other (omega arith))) refl), (λ q b. refl));
  ports = λ o b. refl;
}

pub InGate-pin : (m p q : ℕ) (v : Bool) → InGate (stuck p q v) m p
InGate-pin m p q v = record {
  inputs = λ j l b. refl;
  others = λ i other. ((λ b. refl), (λ k b. rw (ne_eqb p i (λ e. other (sym e))) refl));
  ports = λ o b. refl;
}

-- ---- gates without the fault

quiet_table : (fault : Option Fault) (w : List Bool) (m i : ℕ) (g : Gate) → Quiet fault m i → seen fault (Stem (m + i)) (table g (ones_seen fault w i g)) ≡ table g (ones_seen None w i g)
quiet_table fault w m i g (stem, pins) = stem _ ∙ ap (table g) (where_below_agree (length g.pins) _ _ (λ q l. pins q (value_of w (slice_index g.pins q))))

pub Fits-quiet : (fault : Option Fault) (w : List Bool) (m i : ℕ) (g : Gate) → Quiet fault m i → Fits fault w m i g → Fits None w m i g
Fits-quiet fault w m i g quiet h = h ∙ quiet_table fault w m i g quiet

-- gates apart from place p follow as without a fault
pub Follows-quiet : (fault : Option Fault) (w : List Bool) (m p i : ℕ) (gs : List Gate) → InGate fault m p → ((j : ℕ) → i ≤ j → j < i + length gs → j ≢ p) → Follows fault w m i gs → Follows None w m i gs
Follows-quiet fault w m p i gs within apart h = EachAt-weaker (Fits fault w m) (Fits None w m) i gs (λ j g l k. Fits-quiet fault w m j g (within.others j (apart j l k))) h

-- ---- the fault's own gate

pub at_stem : (w : List Bool) (m p : ℕ) (v : Bool) (g : Gate) → Fits (held m p v) w m p g → value_of w (m + p) ≡ v
at_stem w m p v g h = h ∙ rw (eq-eqb (m + p) (m + p) refl) refl

pub at_pin : (p q : ℕ) (v b : Bool) → seen (stuck p q v) (Pin p q) b ≡ v
at_pin p q v b = rw (eq-eqb p p refl, eq-eqb q q refl) refl

pub at_other_pin : (p q k : ℕ) (v b : Bool) → (k ≢ q) → seen (stuck p q v) (Pin p k) b ≡ b
at_other_pin p q k v b other = rw (eq-eqb p p refl, ne_eqb q k (λ e. other (sym e))) refl

-- ---- a run with the fault is one without it at another point

pub run_to_as : (n : Network) (fault : Option Fault) (x y : Set) → ((j : ℕ) → j < length n.inputs → seen fault (Stem j) (has x j) ≡ has y j)
    → (k : ℕ) → ((i : ℕ) → i < k → Quiet fault (length n.inputs) i) → run_to n fault x k ≡ run_to n None y k
unfolding run_to
run_to_as n fault x y inputs zero quiet = map_range_agree _ _ 0 (length n.inputs) (λ j l. inputs j (omega arith))
run_to_as n fault x y inputs (suc k) quiet =
    ap (λ b. run_to n fault x k ++ b ∷ []) (quiet_table fault (run_to n fault x k) (length n.inputs) k (gate_at n k) (quiet k (omega arith)))
    ∙ ap (λ u. u ++ table (gate_at n k) (ones_seen None u k (gate_at n k)) ∷ []) (run_to_as n fault x y inputs k (λ i l. quiet i (omega arith)))

-- the signals before the fault's gate have the same values in the two runs
pub before_gate : (n : Network) (fault : Option Fault) (x : Set) (p : ℕ) → InGate fault (length n.inputs) p → p ≤ length n.gates → (s : ℕ) → s < length n.inputs + p → value_of (run n fault x) s ≡ value_of (run n None x) s
before_gate n fault x p within few s l =
    value_final n fault x p s few l
    ∙ ap (λ w. value_of w s) (run_to_as n fault x x (λ j k. within.inputs j k (has x j)) p (λ i k. within.others i (λ e. absurd (omega arith))))
    ∙ sym (value_final n None x p s few l)

-- ---- what a port shows

pub has-out : (n : Network) (fault : Option Fault) (x : Set) (o : ℕ) → o < length n.outputs → has (out n fault x) o ≡ seen fault (Port o) (value_of (run n fault x) (slice_index n.outputs o))
unfolding out
has-out n fault x o l = has-where_below (length n.outputs) (λ p. seen fault (Port p) (value_of (run n fault x) (slice_index n.outputs p))) o ∙ ap (λ c. c && seen fault (Port o) (value_of (run n fault x) (slice_index n.outputs o))) (lt-ltb o (length n.outputs) l)

-- a fault at the stem of an input acts as the point where the input has its value
pub source_out : (n : Network) (j : ℕ) (u : Bool) (x y : Set) → j < length n.inputs → has y j ≡ u → ((k : ℕ) → k < length n.inputs → (k ≢ j) → has x k ≡ has y k)
    → (o : ℕ) → o < length n.outputs → has (out n (Some (record { place = Stem j; value = u })) x) o ≡ has (out n None y) o
unfolding run
source_out n j u x y source own others o l =
    has-out n (Some (record { place = Stem j; value = u })) x o l
    ∙ ap (λ w. value_of w (slice_index n.outputs o)) (run_to_as n _ x y
    (λ k lk. elim (cases_eq j k) [ inl same ↦ rw (eq-eqb j k same) (sym own ∙ ap (has y) same) | inr other ↦ rw (ne_eqb j k other) (others k lk (λ same. other (sym same))) ])
    (length n.gates) (λ i _. ((λ b. rw (ne_eqb j (length n.inputs + i) (λ same. absurd (omega arith))) refl), (λ q b. refl))))
    ∙ sym (has-out n None y o l)

-- a fault that turns an output is detected
pub Differs-turned : (n : Network) (fault : Fault) (x : Set) (o : ℕ) → has (out n (Some fault) x) o ≡ not (has (out n None x) o) → Differs n fault x
Differs-turned n fault x o turned same = not_own (has (out n None x) o) (sym (ap (λ s. has s o) same) ∙ turned)
  where
    not_own : (b : Bool) → b ≢ not b
    not_own true e = false≢true (sym e)
    not_own false e = false≢true e

-- ---- the gates of the Reddy network

-- gate i of the network is g
abbrev pub Sits : Names → Terms → ℕ → Gate → Type 0
Sits names e i g = slice_get ((reddy_net names e).gates) i ≡ Some g

pub gates_are : (names : Names) (e : Terms) → (reddy_net names e).gates ≡ gates (lead names) names e
unfolding reddy_net
gates_are names e = refl

pub outputs_are : (names : Names) (e : Terms) → (reddy_net names e).outputs ≡ ends e (chain_place e) e.outs
unfolding reddy_net
outputs_are names e = refl

pub parts : (names : Names) (e : Terms) → Built (Sits names e) (lead names) names e
parts names e =
    built (Sits names e) (lead names) names e (subst (EachAt (Sits names e) 0) (gates_are names e)
    (EachAt-from_get (Sits names e) 0 ((reddy_net names e).gates) (λ j g there. subst (λ i. Sits names e i g) (sym (zero-add j)) there)))

pub and_sits : (names : Names) (e : Terms) (t : Set) → list_any (λ u. eqb u t) (wide_terms e) ≡ true → Sits names e (and_place e + place_of (wide_terms e) t) (and_of (lead names) e (place_of (wide_terms e) t) t)
and_sits names e t listed = EachAt-gates_for (Sits names e) (and_place e) (and_of (lead names) e) (wide_terms e) (parts names e).ands t listed

-- ---- two runs

-- w is the run with the fault, which is in gate p, and v the run without it
pub record TwoRuns (names : Names) (e : Terms) (fault : Option Fault) (p : ℕ) (x : Set) (w v : List Bool) : Type 0 where
  pub faulty : (i : ℕ) (g : Gate) → Sits names e i g → Fits fault w (lines e) i g
  pub plain : (i : ℕ) (g : Gate) → Sits names e i g → Fits None v (lines e) i g
  pub inputs : (j : ℕ) → j < lines e → value_of v j ≡ has x j
  pub within : InGate fault (lines e) p
  pub before : (s : ℕ) → s < lines e + p → value_of w s ≡ value_of v s

pub two_runs : (names : Names) (e : Terms) → CanBuild names e → (fault : Option Fault) (p : ℕ) (g : Gate) → Sits names e p g → (x : Set) → InGate fault (lines e) p → TwoRuns names e fault p x (run (reddy_net names e) fault x) (run (reddy_net names e) None x)
two_runs names e can fault p g sits x within =
    let n : Network = reddy_net names e in
    let m : length n.inputs ≡ lines e = inputs_are names e can in
    let few : p < length n.gates = slice_get_within n.gates p g sits in
    let is_w : IsRun n fault x (run n fault x) = IsRun-run n fault x (valid names e can) in
    let is_v : IsRun n None x (run n None x) = IsRun-run n None x (valid names e can) in
    record {
      faulty = λ i g there. subst (λ k. Fits fault (run n fault x) k i g) m (is_w.gates i g there);
      plain = λ i g there. subst (λ k. Fits None (run n None x) k i g) m (is_v.gates i g there);
      inputs = λ j l. is_v.inputs j (omega (arith, m, l));
      within = within;
      before = λ s l. before_gate n fault x p (subst (λ k. InGate fault k p) (sym m) within) (omega arith) s (omega (arith, m, l));
    }

-- an output that is another in the faulty run
abbrev pub Turned : Terms → List Bool → List Bool → ℕ → Type 0
Turned e w v o = value_of w (slice_index (ends e (chain_place e) e.outs) o) ≡ not (value_of v (slice_index (ends e (chain_place e) e.outs) o))

-- some universal vector detects the fault
abbrev pub Told : Names → Terms → Fault → Type 0
Told names e fault = IsDetected (reddy_net names e) (universal_vectors e.polarity (used_inputs e)) fault

-- it does where the fault turns an output there
pub told : (names : Names) (e : Terms) → CanBuild names e → (fault : Fault) (p : ℕ) (g : Gate) → Sits names e p g → InGate (Some fault) (lines e) p → (x : Set) → Contains (universal_vectors e.polarity (used_inputs e)) x
    → (o : ℕ) (ts : List Set) → slice_get e.outs o ≡ Some ts → ((w v : List Bool) → TwoRuns names e (Some fault) p x w v → Turned e w v o) → Told names e fault
told names e can fault p g sits within x listed o ts there turns =
    let n : Network = reddy_net names e in
    let l : o < length n.outputs = omega (arith, slice_get_within e.outs o ts there, length-outputs names e) in
    let shown : value_of (run n (Some fault) x) (slice_index n.outputs o) ≡ not (value_of (run n None x) (slice_index n.outputs o)) =
    subst (λ (ss : List ℕ). value_of (run n (Some fault) x) (slice_index ss o) ≡ not (value_of (run n None x) (slice_index ss o))) (sym (outputs_are names e)) (turns _ _ (two_runs names e can (Some fault) p g sits x within)) in
    (x, listed, Differs-turned n fault x o (has-out n (Some fault) x o l ∙ within.ports o _ ∙ shown ∙ ap not (sym (has-out n None x o l))))

-- ---- what the two runs share

module _ (names : Names) (e : Terms) (fault : Option Fault) (p : ℕ) (x : Set) (w v : List Bool) (two : TwoRuns names e fault p x w v) where
  -- a part follows in each run
  pub faulty : (i : ℕ) (gs : List Gate) → EachAt (Sits names e) i gs → Follows fault w (lines e) i gs
  faulty i gs h = EachAt-weaker (Sits names e) (Fits fault w (lines e)) i gs (λ j g l k. two.faulty j g) h

  pub plain : (i : ℕ) (gs : List Gate) → EachAt (Sits names e) i gs → Follows None v (lines e) i gs
  plain i gs h = EachAt-weaker (Sits names e) (Fits None v (lines e)) i gs (λ j g l k. two.plain j g) h

  -- the values without the fault
  pub plain_literal : Literals e x v
  plain_literal = value-literal (lead names) e x v two.inputs (plain 0 _ (parts names e).inverted)

  pub plain_term : (t : Set) → Stands e t → inside t (first e.polarity.n) ≡ true → (t ≢ empty) → value_of v (term_signal e t) ≡ product e.polarity t x
  plain_term t stands = value-term (lead names) e x v plain_literal t (λ wide. two.plain _ _ (and_sits names e t (wide_stands e t stands wide))) stands

  pub plain_start : (o : ℕ) (ts : List Set) → slice_get e.outs o ≡ Some ts → value_of v (start e ts) ≡ differ (has_one ts) (has x e.polarity.n)
  plain_start = value-start (lead names) e (has x e.polarity.n) v (two.inputs e.polarity.n (omega arith)) (plain _ _ (parts names e).control)

  -- a term whose own gate is not the fault's shows the same
  pub term_kept : (t : Set) → length (turned e) ≤ p → Stands e t → inside t (first e.polarity.n) ≡ true → (t ≢ empty) → (is_wide t ≡ true → and_place e + place_of (wide_terms e) t ≢ p) → value_of w (term_signal e t) ≡ value_of v (term_signal e t)
  unfolding term_signal
  term_kept t late stands below some other =
      let m : ℕ = lines e + length (turned e) in
      let q : ℕ = and_place e + place_of (wide_terms e) t in
      let g : Gate = and_of (lead names) e (place_of (wide_terms e) t) t in
      elim (cases_Bool (is_wide t)) [
        | inl wide ↦
            let sits : Sits names e q g = and_sits names e t (wide_stands e t stands wide) in
            rw wide (Fits-quiet fault w (lines e) q g (two.within.others q (other wide)) (two.faulty q g sits)
            ∙ ap (table g) (ones_seen_agree None w v q m g (All-from_recursion (λ pin. pin < m) g.pins (each_weaker (MayRead e m) (λ pin. pin < m) (λ pin h. h.0) g.pins (literals_read e t stands below m (omega arith)))) (λ s l. two.before s (omega arith)))
            ∙ sym (two.plain q g sits))
        | inr narrow ↦
            let h : has t (slice_index (members t) 0) ≡ true = first_member t some in
            rw narrow (two.before (literal_signal e (slice_index (members t) 0)) (omega (arith, (literal_read e (slice_index (members t) 0) (inside-below e.polarity.n t below _ h) (used_since e t _ stands h)).0)))
      ]

  -- what output o shows where the fault is before the chains
  pub faulty_port : CanBuild names e → (f : Set → Bool) (o : ℕ) (ts : List Set) → p < chain_place e → slice_get e.outs o ≡ Some ts → Shows e w f (rest ts) → value_of w (slice_index (ends e (chain_place e) e.outs) o) ≡ differ (value_of w (start e ts)) (exor_of f (rest ts))
  faulty_port can f o ts early there shows =
      value-port (lead names) e w f 0 (chain_place e) e.outs names.outputs
      (Follows-quiet fault w (lines e) p (chain_place e) _ two.within (λ j l k same. absurd (omega arith)) (faulty (chain_place e) _ (parts names e).outputs))
      can.fits.outputs o ts there shows

  pub plain_port : CanBuild names e → (f : Set → Bool) (o : ℕ) (ts : List Set) → slice_get e.outs o ≡ Some ts → Shows e v f (rest ts) → value_of v (slice_index (ends e (chain_place e) e.outs) o) ≡ differ (value_of v (start e ts)) (exor_of f (rest ts))
  plain_port can f o ts there shows = value-port (lead names) e v f 0 (chain_place e) e.outs names.outputs (plain (chain_place e) _ (parts names e).outputs) can.fits.outputs o ts there shows

-- what each term shows, said by itself
pub itself : (e : Terms) (w : List Bool) (ts : List Set) → Shows e w (λ t. value_of w (term_signal e t)) ts
itself e w ts = each_always (λ t. value_of w (term_signal e t) ≡ value_of w (term_signal e t)) (λ t. refl) ts
