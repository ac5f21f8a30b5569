-- A fault of an input's literal acts as the opposite value of the input. So of two vectors that differ in the input alone and at which an
-- output differs, one detects it. Two universal vectors are such where an expansion holds the input an odd number of times: that of all
-- literals 1 and the input's own.
use Rattle.std.proofs.Common.{Bool, List, ap, ap₂, arith, cond, eq-eqb, eqb, false, inl, inr, length, ne_eqb, not, refl, subst, suc, sym, true, ℕ, ◌%◌, ◌&&◌, ◌++◌, ◌+◌, ◌<◌, ◌||◌, ◌∙◌, ◌≡◌, ◌≢◌}
use Rattle.std.specs.Fmt.{decimal}
use Rattle.std.specs.List.{list_any}
use Rattle.std.specs.Prelude.{Contains, None, Option, Some, codes, count_by, slice_get, slice_index, ◌↔◌}
use Rattle.std.proofs.lemmas.Bool.{and_from, cases_Bool, cases_eq, lt-ltb, ltb-true}
use Rattle.std.proofs.lemmas.List.{length-map}
use Rattle.std.proofs.lemmas.Map.Keys.{any_passes_from_place}
use Rattle.std.proofs.lemmas.Option.{same_Some, slice_get_within}
use Rattle.ae_base.specs.Cube.{holds}
use Rattle.ae_base.specs.Mask.{Set, differ, first, has, inside, len, members}
use Rattle.ae_base.specs.Source.{IsUsed, Source}
use Rattle.ae_base.specs.Terms.{exor_of, literal, product, value}
use Rattle.ae_base.proofs.Distinct.{each_weaker}
use Rattle.ae_base.proofs.EachAt.{EachAt}
use Rattle.ae_base.proofs.Elements.{any_found}
use Rattle.ae_base.proofs.Exor.{exor_of_some, odd_count}
use Rattle.ae_base.proofs.Members.{len-members}
use Rattle.ae_base.proofs.Points.{has-flipped}
use Rattle.ae_base.proofs.Sets.{has-where_below}
use Rattle.ae_base.proofs.Truth.{differ-false, differ-not_right}
use Rattle.ae_net.specs.Faults.{IsPlace}
use Rattle.ae_net.specs.Follows.{Follows}
use Rattle.ae_net.specs.Gates.{inverter}
use Rattle.ae_net.specs.Lead.{lead}
use Rattle.ae_net.specs.Names.{Names, inner}
use Rattle.ae_net.specs.Network.{Network}
use Rattle.ae_net.specs.Out.{Differs, out, run}
use Rattle.ae_net.specs.Run.{value_of}
use Rattle.ae_net.specs.declared.net.Fault.{Fault}
use Rattle.ae_net.specs.declared.net.Gate.{Gate}
use Rattle.ae_net.specs.declared.net.Place.{Place}
use Rattle.ae_net.specs.declared.net.Place.TheVariants.{Pin, Port, Stem}
use Rattle.ae_net.proofs.Tables.{table-inverter}
use Rattle.expansion.specs.Counts.{is_odd}
use Rattle.expansion.specs.Even.{AreEven, even_inputs}
use Rattle.expansion.specs.Functions.{AreExpansions}
use Rattle.expansion.specs.Terms.{Terms, is_used, used_inputs}
use Rattle.cascade.specs.FirstVectors.{literals_at}
use Rattle.cascade.specs.Reddy.{chain_place, ends, lines, literal_signal, place_of, turned}
use Rattle.cascade.specs.Shows.{CanBuild, reddy_net}
use Rattle.cascade.proofs.Law.{IsTerm, Literals, Stands, at_place, place_apart, terms_at, turned_stands, value-output, wide_found}
use Rattle.cascade.proofs.Valid.{chain_after, few_lines, inputs_are, shown, start_read, turned_parts}
use Rattle.universal_tests.specs.Odd.{DetectsLiterals, IsHeldOddly, IsUsedNotEven}
use Rattle.universal_tests.specs.Sites.{IsInverterOf, IsOfLiteral}
use Rattle.universal_tests.specs.Universal.{one_low, universal_vectors}
use Rattle.universal_tests.proofs.AtVectors.{Contains-all_at, Contains-one_low, all_at, literal-all_at, literal-one_low, product_high, product_one_low}
use Rattle.universal_tests.proofs.Chains.{chain_sits}
use Rattle.universal_tests.proofs.Gates.{control_sits, exor_turned, gate_sits, is_port}
use Rattle.universal_tests.proofs.Runs.{Differs-turned, Fits-quiet, Follows-quiet, InGate, InGate-pin, InGate-stem, Sits, Told, TwoRuns, at_pin, at_stem, faulty, has-out, outputs_are, parts, source_out, stuck, two_runs}
use Rattle.universal_tests.proofs.Whole.{Inverts, Part, inverter_sits, of_and, of_control, of_literal, of_output, part_of}

-- two points that differ in input j alone, with its literal at 1 and at 0, at which output o differs
pub record Pair (e : Terms) (j o : ℕ) (ts : List Set) (pair : Bool → Set) : Type 0 where
  pub there : slice_get e.outs o ≡ Some ts
  pub others : (b : Bool) (k : ℕ) → (k ≢ j) → has (pair b) k ≡ has (pair (not b)) k
  pub own : (b : Bool) → literal e.polarity j (pair b) ≡ b
  pub turns : (b : Bool) → value e.polarity ts (pair b) ≡ not (value e.polarity ts (pair (not b)))

module _ (names : Names) (e : Terms) (can : CanBuild names e) (j : ℕ) (l : j < e.polarity.n) where
  module _ (o : ℕ) (ts : List Set) (pair : Bool → Set) (two_of : Pair e j o ts pair) where
    -- a fault that holds the literal at b is detected where it is the opposite
    neighbour : (fault : Fault) (b : Bool) → has (out (reddy_net names e) (Some fault) (pair (not b))) o ≡ differ (has (pair b) e.polarity.n) (value e.polarity ts (pair b)) → Differs (reddy_net names e) fault (pair (not b))
    neighbour fault b acts =
        Differs-turned (reddy_net names e) fault (pair (not b)) o
        (acts
        ∙ ap₂ differ (two_of.others b e.polarity.n (λ same. absurd (omega (arith, same)))) (two_of.turns b)
        ∙ differ-not_right (has (pair (not b)) e.polarity.n) (value e.polarity ts (pair (not b)))
        ∙ ap not (sym (shown names e can (pair (not b)) o ts two_of.there)))

    -- ---- the stem of the input

    source_stem : (u : Bool) → Differs (reddy_net names e) (record { place = Stem j; value = u }) (pair (not (cond (has e.polarity.plain j) u (not u))))
    source_stem u =
        let b : Bool = cond (has e.polarity.plain j) u (not u) in
        neighbour (record { place = Stem j; value = u }) b
        (source_out (reddy_net names e) j u (pair (not b)) (pair b) (omega (arith, l, inputs_are names e can)) (by (has e.polarity.plain j) (has (pair b) j) u (two_of.own b)) (λ k lk other. sym (two_of.others b k other)) o (is_port names e can o ts two_of.there)
        ∙ shown names e can (pair b) o ts two_of.there)
      where
        by : (s h u : Bool) → cond s h (not h) ≡ cond s u (not u) → h ≡ u
        by true h u is = is
        by false true true is = refl
        by false false false is = refl
        by false true false is = sym is
        by false false true is = sym is

    -- ---- the inverter

    module _ (p : ℕ) (of : Inverts e p j) where
      own_gate : Sits names e p (inverter (inner (lead names) (codes "i" ++ decimal (suc j))) j)
      own_gate = inverter_sits names e p j of

      early : p < length (turned e)
      early = omega (arith, of.place, (at_place (turned e) j of.listed).0)

      module _ (fault : Option Fault) (b : Bool) (w v : List Bool) (two : TwoRuns names e fault p (pair (not b)) w v) where
        input_is : (i : ℕ) → i < lines e → (i ≢ j) → value_of w i ≡ has (pair b) i
        input_is i li other = two.before i (omega arith) ∙ two.inputs i li ∙ sym (two_of.others b i other)

        -- with its own literal held at b, all are those of the other point
        all_literals : value_of w (lines e + p) ≡ b → Literals e (pair b) w
        unfolding literal_signal
        all_literals held_at i li ui =
            elim (cases_eq i j) [
              | inl same ↦ rw (same, (turned_parts e j of.listed).2) (ap (λ q. value_of w (lines e + q)) (sym of.place) ∙ held_at ∙ sym (rw (turned_parts e j of.listed).2 at (two_of.own b)))
              | inr other ↦ elim (cases_Bool (has e.polarity.plain i)) [
                | inl s ↦ rw s (input_is i (omega arith) other)
                | inr s ↦
                    let q : ℕ = place_of (turned e) i in
                    let listed = turned_stands e i li ui s in
                    rw s (Fits-quiet fault w (lines e) q _ (two.within.others q (λ same. other (place_apart (turned e) i j listed of.listed (same ∙ of.place)))) (two.faulty q _ (inverter_sits names e q i (record { place = refl; listed = listed })))
                    ∙ table-inverter None w q _ i ∙ ap not (input_is i (omega arith) other))
              ]
            ]

        -- so the output is that of the other point
        acts : value_of w (lines e + p) ≡ b → value_of w (slice_index (ends e (chain_place e) e.outs) o) ≡ differ (has (pair b) e.polarity.n) (value e.polarity ts (pair b))
        acts held_at =
            let quiet : (i : ℕ) (gs : List Gate) → p < i → EachAt (Sits names e) i gs → Follows None w (lines e) i gs = λ i gs before h. Follows-quiet fault w (lines e) p i gs two.within (λ k a c same. absurd (omega (arith, before, a, same))) (faulty names e fault p _ w v two i gs h) in
            value-output names e can.terms can.fits (pair b) w (all_literals held_at) (input_is e.polarity.n (omega arith) (λ same. absurd (omega (arith, same))))
            (quiet _ _ early (parts names e).control) (quiet _ _ (omega (arith, early, (few_lines e).0)) (parts names e).ands) (quiet _ _ (omega (arith, early, (few_lines e).0, chain_after e)) (parts names e).outputs) o ts two_of.there

      -- a fault that holds the gate's signal at b is detected
      inverter_detected : (fault : Fault) (b : Bool) → InGate (Some fault) (lines e) p → ((w v : List Bool) → TwoRuns names e (Some fault) p (pair (not b)) w v → value_of w (lines e + p) ≡ b) → Differs (reddy_net names e) fault (pair (not b))
      inverter_detected fault b within holds =
          let n : Network = reddy_net names e in
          let two = two_runs names e can (Some fault) p _ own_gate (pair (not b)) within in
          neighbour fault b (has-out n (Some fault) (pair (not b)) o (is_port names e can o ts two_of.there) ∙ within.ports o _ ∙ ap (λ (ss : List ℕ). value_of (run n (Some fault) (pair (not b))) (slice_index ss o)) (outputs_are names e) ∙ acts (Some fault) b _ _ two (holds _ _ two))

      literal_stem : (u : Bool) → Differs (reddy_net names e) (record { place = Stem (lines e + p); value = u }) (pair (not u))
      literal_stem u = inverter_detected (record { place = Stem (lines e + p); value = u }) u (InGate-stem (lines e) p u) (λ w v two. at_stem w (lines e) p u _ (two.faulty p _ own_gate))

      literal_pin : (u : Bool) → Differs (reddy_net names e) (record { place = Pin p 0; value = u }) (pair (not (not u)))
      literal_pin u = inverter_detected (record { place = Pin p 0; value = u }) (not u) (InGate-pin (lines e) p 0 u) (λ w v two. two.faulty p _ own_gate ∙ table-inverter (stuck p 0 u) w p _ j ∙ ap not (at_pin p 0 u _))

  -- ---- the sites of a literal

  -- a gate that is an inverter of a source input is among the first
  pub inverts_of : (p : ℕ) → IsInverterOf (reddy_net names e) p j → Inverts e p j
  inverts_of p (name, there) = by_part (part_of names e can p (slice_get_within ((reddy_net names e).gates) p (inverter name j) there))
    where
      pin : (g : Gate) → Sits names e p g → slice_index g.pins 0 ≡ j
      pin g sits = ap (λ (g : Gate). slice_index g.pins 0) (same_Some _ _ (sym sits ∙ there))

      pins : (g : Gate) → Sits names e p g → length g.pins ≡ 1
      pins g sits = ap (λ (g : Gate). length g.pins) (same_Some _ _ (sym sits ∙ there))

      by_part : Part names e p → Inverts e p j
      by_part (of_literal i of) = subst (Inverts e p) (pin _ (inverter_sits names e p i of)) of
      by_part (of_control some is) = absurd (omega (arith, l, pin _ (rw (sym is) at (control_sits names e some))))
      by_part (of_and of) = absurd (omega (arith, pins _ (gate_sits names e can p of), length-map (members of.t) (literal_signal e), len-members of.t, ltb-true 1 (len of.t) (wide_found e of.t of.listed).0))
      by_part (of_output of) = elim (chain_sits names e can p of) [ inl b ↦ absurd (omega (arith, l, pin _ b.1, (start_read e of.o of.ts of.there).0)) | inr r ↦ absurd (omega (arith, pins _ r.sits)) ]

  -- each fault is detected at one of the two points
  pub pair_detects : (o : ℕ) (ts : List Set) (pair : Bool → Set) → Pair e j o ts pair
      → (place : Place) (u : Bool) → IsPlace (reddy_net names e) place → IsOfLiteral (reddy_net names e) j place → (b : Bool) × Differs (reddy_net names e) (record { place = place; value = u }) (pair b)
  pair_detects o ts pair two (Stem s) u h (inl same) = rw same (_, source_stem o ts pair two u)
  pair_detects o ts pair two (Stem s) u h (inr (p, same, of)) = rw (same, inputs_are names e can) (_, literal_stem o ts pair two p (inverts_of p of) u)
  pair_detects o ts pair two (Pin p q) u (gate, there, within) of =
      let first : q ≡ 0 = omega (arith, within, ap (λ (g : Gate). length g.pins) (same_Some _ _ (sym there ∙ of.1))) in
      rw first (_, literal_pin o ts pair two p (inverts_of p of) u)
  pair_detects o ts pair two (Port i) u h of = absurd of

  -- ---- an input that an expansion holds an odd number of times

  -- all literals at 1, with that of the input at b
  own_at : Bool → Set
  own_at b = cond b (all_at e.polarity (used_inputs e) true false) (one_low e.polarity (used_inputs e) j)

  odd_pair : (o : ℕ) (ts : List Set) → slice_get e.outs o ≡ Some ts → has (used_inputs e) j ≡ true → exor_of (λ t. has t j) ts ≡ true → Pair e j o ts own_at
  unfolding own_at one_low
  odd_pair o ts there used odd = record { there = there; others = λ b k other. moved b k other ∙ sym (moved (not b) k other); own = own; turns = turns }
    where
      moved : (b : Bool) (k : ℕ) → (k ≢ j) → has (own_at b) k ≡ has (all_at e.polarity (used_inputs e) true false) k
      moved true k other = refl
      moved false k other = has-flipped j (literals_at e.polarity (used_inputs e) true) k ∙ ap (differ (has (all_at e.polarity (used_inputs e) true false) k)) (ne_eqb k j other) ∙ differ-false _

      own : (b : Bool) → literal e.polarity j (own_at b) ≡ b
      own true = literal-all_at e.polarity (used_inputs e) true false j l used
      own false = literal-one_low e.polarity (used_inputs e) j j l used ∙ ap not (eq-eqb j j refl)

      -- the products of the terms that hold the input turn
      product_own : (b : Bool) (t : Set) → Stands e t → inside t (first e.polarity.n) ≡ true → product e.polarity t (own_at b) ≡ (b || not (has t j))
      product_own true t stands below = product_high e false t stands below
      product_own false t stands below = product_one_low e t stands below j

      by : (b h : Bool) → (b || not h) ≡ differ h (not b || not h)
      by b h = grind arith

      turns : (b : Bool) → value e.polarity ts (own_at b) ≡ not (value e.polarity ts (own_at (not b)))
      turns b =
          exor_turned (λ t. product e.polarity t (own_at b)) (λ t. product e.polarity t (own_at (not b))) (λ t. has t j) ts
          (each_weaker (IsTerm e) (λ t. product e.polarity t (own_at b) ≡ differ (has t j) (product e.polarity t (own_at (not b)))) (λ t h. product_own b t h.0 h.1 ∙ by b (has t j) ∙ ap (differ (has t j)) (sym (product_own (not b) t h.0 h.1))) ts (terms_at e can.terms o ts there)) odd

  odd_told : is_odd e j ≡ true → (place : Place) (u : Bool) → IsPlace (reddy_net names e) place → IsOfLiteral (reddy_net names e) j place → Told names e (record { place = place; value = u })
  unfolding own_at used_inputs
  odd_told odd place u h of =
      let found = any_found (λ ts. eqb (count_by (λ t. has t j) ts % 2) 1) e.outs odd in
      let is = odd_count (λ t. has t j) found.element ∙ found.passes in
      let used : has (used_inputs e) j ≡ true = has-where_below e.polarity.n (is_used e) j ∙ ap₂ (λ a b. a && b) (lt-ltb j e.polarity.n l) (any_passes_from_place (λ us. list_any (λ t. has t j) us) e.outs found.place found.element found.there (exor_of_some (λ t. has t j) found.element is)) in
      let r = pair_detects found.place found.element own_at (odd_pair found.place found.element found.there used is) place u h of in
      (own_at r.0, listed used r.0, r.1)
    where
      listed : has (used_inputs e) j ≡ true → (b : Bool) → Contains (universal_vectors e.polarity (used_inputs e)) (own_at b)
      listed used true = Contains-all_at e.polarity (used_inputs e) true false
      listed used false = Contains-one_low e.polarity (used_inputs e) j used

pub detects_odd : (names : Names) (e : Terms) → CanBuild names e → DetectsLiterals (reddy_net names e) (IsHeldOddly e) (universal_vectors e.polarity (used_inputs e))
detects_odd names e can fault j (l, odd) h of = odd_told names e can j l odd fault.place fault.value h of

-- a used input that is not even by the flip is odd by the count
pub held_oddly : (s : Source) (e : Terms) → AreExpansions s e.polarity e → ((j : ℕ) → (has (used_inputs e) j ≡ true) ↔ IsUsed s j) → AreEven s e.polarity (even_inputs e)
    → ((j : ℕ) → has (even_inputs e) j ≡ (has (used_inputs e) j && not (is_odd e j))) → (j : ℕ) → IsUsedNotEven s e.polarity j → IsHeldOddly e j
held_oddly s e are used even counted j (is_used, not_even) = (
  omega (arith, are.inputs, is_used.is_input),
  elim (cases_Bool (is_odd e j)) [
    | inl odd ↦ odd
    | inr none ↦ absurd (not_even ((even j).0 (counted j ∙ and_from _ _ ((used j).1 is_used) (ap not none))))
  ],
)
