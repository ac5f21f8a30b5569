-- A fault at an AND gate, at the control, at its inverter, or at a port is detected. A fault in one gate before the chains that turns the
-- gate's signal turns an output: a chain takes the signal in at one place.
use Rattle.std.proofs.Common.{Bool, List, [], ap, ap₂, arith, eq-eqb, eqb, false, get_or, inl, inr, length, map, ne_eqb, not, refl, subst, sym, true, ℕ, ◌+◌, ◌-◌, ◌<◌, ◌∙◌, ◌∷◌, ◌≡◌, ◌≢◌, ◌≤◌}
use Rattle.std.specs.List.{AllByRecursion, list_any}
use Rattle.std.specs.Prelude.{Contains, None, Option, Some, codes, slice_get, slice_index}
use Rattle.std.specs.declared.cmp.Ordering.TheVariants.{Less}
use Rattle.std.proofs.lemmas.Bool.{cases_eq, ltb-true}
use Rattle.std.proofs.lemmas.List.{get_or-map, length-map}
use Rattle.std.proofs.lemmas.List.Folds.{list_any_at}
use Rattle.std.proofs.lemmas.List.Kept.{AllPairs-filter}
use Rattle.std.proofs.lemmas.Option.{slice_get-get_or, slice_get_within}
use Rattle.ae_base.specs.Cube.{holds}
use Rattle.ae_base.specs.Mask.{Set, cmp_terms, differ, empty, first, has, inside, len, members}
use Rattle.ae_base.specs.Terms.{IsInOrder, exor_of, product}
use Rattle.ae_base.proofs.Distinct.{Distinct-members}
use Rattle.ae_base.proofs.EachAt.{EachAt}
use Rattle.ae_base.proofs.Elements.{All-get, any_found, any_kept}
use Rattle.ae_base.proofs.Exor.{exor_of-member}
use Rattle.ae_base.proofs.Members.{len-none, members-has}
use Rattle.ae_base.proofs.Sets.{has-empty}
use Rattle.ae_base.proofs.Truth.{differ-assoc, differ-false, differ-not_right, differ-swap, not_not, other_way}
use Rattle.ae_net.specs.Gates.{inverter}
use Rattle.ae_net.specs.Lead.{lead}
use Rattle.ae_net.specs.Names.{Names, inner}
use Rattle.ae_net.specs.Network.{Network}
use Rattle.ae_net.specs.Out.{out}
use Rattle.ae_net.specs.Run.{value_of}
use Rattle.ae_net.specs.declared.net.Fault.{Fault}
use Rattle.ae_net.specs.declared.net.Place.TheVariants.{Pin, Port, Stem}
use Rattle.ae_net.proofs.Tables.{all_see, all_see-false, all_to, sees, table-and, table-inverter}
use Rattle.expansion.specs.Terms.{Terms, is_used, used_inputs}
use Rattle.cascade.specs.Reddy.{and_place, control_gates, has_one, is_wide, lines, literal_signal, place_of, rest, start, term_signal, turned, wide_terms}
use Rattle.cascade.specs.Shows.{CanBuild, reddy_net}
use Rattle.cascade.proofs.Law.{Stands, and_of, at_place, each_rest, place_apart, place_at, stands_inside, terms_at, used_since, value-rest, wide_apart, wide_found, wide_stands}
use Rattle.cascade.proofs.Valid.{chain_after, few_lines, inputs_are, length-outputs, literal_read, shown, start_read}
use Rattle.universal_tests.specs.Universal.{one_low, universal_vectors}
use Rattle.universal_tests.proofs.AtVectors.{Contains-all_at, Contains-one_low, all_at, control-all_at, literal-one_low, low_part, member_used, product_all_at, product_one_low}
use Rattle.universal_tests.proofs.Runs.{Differs-turned, InGate, InGate-pin, InGate-stem, Sits, Told, Turned, TwoRuns, and_sits, at_other_pin, at_pin, at_stem, faulty_port, has-out, itself, parts, plain_literal, plain_port, plain_term, source_out, stuck, term_kept, told}

-- where one test says of each element another thing than a second one as often as a third says 1, and that is odd, their EXORs differ
pub exor_turned : (f g h : Set → Bool) (ts : List Set) → AllByRecursion (λ t. f t ≡ differ (h t) (g t)) ts → exor_of h ts ≡ true → exor_of f ts ≡ not (exor_of g ts)
exor_turned f g h ts each odd = split ts each ∙ ap (λ b. differ b (exor_of g ts)) odd
  where
    split : (ts : List Set) → AllByRecursion (λ t. f t ≡ differ (h t) (g t)) ts → exor_of f ts ≡ differ (exor_of h ts) (exor_of g ts)
    split [] e = refl
    split (t ∷ ts) (e, es) = ap₂ differ e (split ts es) ∙ differ-swap (h t) (g t) (exor_of h ts) (exor_of g ts)

pub wide_some : (t : Set) → is_wide t ≡ true → t ≢ empty
wide_some t wide same = absurd (omega (arith, ltb-true 1 (len t) wide, ap len same, len-none empty has-empty))

pub and_signal : (e : Terms) (t : Set) → is_wide t ≡ true → term_signal e t ≡ lines e + (and_place e + place_of (wide_terms e) t)
unfolding term_signal
and_signal e t wide = rw wide refl

-- where some output has the empty term the inverter of the control stands before the AND gates, and its chain starts there
one_before : (e : Terms) (ts : List Set) → list_any has_one e.outs ≡ true → has_one ts ≡ true → (length (turned e) < and_place e) × (start e ts ≡ lines e + length (turned e))
unfolding and_place start
one_before e ts some one = rw (some, one) (omega arith, refl)

pub control_sits : (names : Names) (e : Terms) → list_any has_one e.outs ≡ true → Sits names e (length (turned e)) (inverter (inner (lead names) (codes "m")) e.polarity.n)
unfolding control_gates EachAt
control_sits names e some = (rw some at (parts names e).control).0

-- the term of the AND gate in place p
pub record OfTerm (e : Terms) (p : ℕ) : Type 0 where
  pub t : Set
  pub place : p ≡ and_place e + place_of (wide_terms e) t
  pub listed : list_any (λ u. eqb u t) (wide_terms e) ≡ true

pub of_term : (e : Terms) (p : ℕ) → and_place e ≤ p → p < and_place e + length (wide_terms e) → OfTerm e p
of_term e p low high =
    let l : p - and_place e < length (wide_terms e) = omega arith in
    let t : Set = get_or (wide_terms e) (p - and_place e) 0 in
    record { t = t; place = omega (arith, place_at (wide_terms e) (wide_apart e) (p - and_place e) l); listed = list_any_at (λ u. eqb u t) (wide_terms e) (p - and_place e) 0 l (eq-eqb t t refl) }

module _ (names : Names) (e : Terms) (can : CanBuild names e) where
  -- ---- AND gates

  module _ (p : ℕ) (of : OfTerm e p) where
    -- the term stands in an expansion
    stands : Stands e of.t
    stands = (wide_found e of.t of.listed).1

    wide : is_wide of.t ≡ true
    wide = (wide_found e of.t of.listed).0

    below : inside of.t (first e.polarity.n) ≡ true
    below = stands_inside e can.terms of.t stands

    abbrev pins : List ℕ
    pins = map (literal_signal e) (members of.t)

    pub gate_sits : Sits names e p (and_of (lead names) e (place_of (wide_terms e) of.t) of.t)
    gate_sits = subst (λ q. Sits names e q (and_of (lead names) e (place_of (wide_terms e) of.t) of.t)) (sym of.place) (and_sits names e of.t of.listed)

    -- a fault that turns the gate's signal turns an output that has the term
    and_turns : (fault : Option Fault) (x : Set) (w v : List Bool) → TwoRuns names e fault p x w v → (o : ℕ) (ts : List Set) → slice_get e.outs o ≡ Some ts → list_any (λ u. eqb u of.t) ts ≡ true → value_of w (lines e + p) ≡ not (value_of v (lines e + p)) → Turned e w v o
    and_turns fault x w v two o ts there m turns =
        let t : Set = of.t in
        let listed = wide_stands e t stands wide in
        let signal : term_signal e t ≡ lines e + p = and_signal e t wide ∙ ap (λ q. lines e + q) (sym of.place) in
        let here : value_of w (term_signal e t) ≡ not (value_of v (term_signal e t)) = rw signal turns in
        let each : AllByRecursion (λ u. value_of w (term_signal e u) ≡ differ (eqb u t) (value_of v (term_signal e u))) (rest ts) =
        each_rest e (λ u. value_of w (term_signal e u) ≡ differ (eqb u t) (value_of v (term_signal e u))) (λ u su iu some. elim (cases_eq u t) [
          | inl a ↦ rw (eq-eqb u t a, a) here
          | inr n ↦ rw (ne_eqb u t n) (term_kept names e fault p x w v two u (omega (arith, (few_lines e).0, of.place)) su iu some (λ uw same. n (place_apart (wide_terms e) u t (wide_stands e u su uw) listed (omega (arith, same, of.place)))))
        ]) ts (terms_at e can.terms o ts there) in
        let odd = exor_of-member t (rest ts) (AllPairs-filter (λ u y. cmp_terms u y ≡ Less) (λ u. not (eqb u empty)) ts (All-get IsInOrder e.outs o ts can.terms.order there)) ∙ any_kept (λ u. not (eqb u empty)) t (ap not (ne_eqb t empty (wide_some t wide))) ts m in
        faulty_port names e fault p x w v two can (λ u. value_of w (term_signal e u)) o ts (omega (arith, (at_place (wide_terms e) t listed).0, chain_after e, of.place)) there (itself e w (rest ts))
        ∙ ap₂ differ (two.before (start e ts) (omega (arith, (start_read e o ts there).1, of.place))) (exor_turned (λ u. value_of w (term_signal e u)) (λ u. value_of v (term_signal e u)) (λ u. eqb u t) (rest ts) each odd)
        ∙ differ-not_right (value_of v (start e ts)) (exor_of (λ u. value_of v (term_signal e u)) (rest ts))
        ∙ ap not (sym (plain_port names e fault p x w v two can (λ u. value_of v (term_signal e u)) o ts there (itself e v (rest ts))))

    -- a fault that holds the signal against the product at a vector of the list is detected
    and_told : (fault : Fault) (x : Set) (u : Bool) → InGate (Some fault) (lines e) p → Contains (universal_vectors e.polarity (used_inputs e)) x → product e.polarity of.t x ≡ not u
        → ((w v : List Bool) → TwoRuns names e (Some fault) p x w v → value_of w (lines e + p) ≡ u) → Told names e fault
    and_told fault x u within listed product_is holds =
        let found = any_found (λ ts. list_any (λ t. eqb t of.t) ts) e.outs stands in
        told names e can fault p _ gate_sits within x listed found.place found.element found.there (λ w v two.
        let plain : value_of v (lines e + p) ≡ not u = ap (value_of v) (sym (and_signal e of.t wide ∙ ap (λ q. lines e + q) (sym of.place))) ∙ plain_term names e (Some fault) p x w v two of.t stands below (wide_some of.t wide) ∙ product_is in
        and_turns (Some fault) x w v two found.place found.element found.there found.passes (holds w v two ∙ not_not u ∙ ap not (sym plain)))

    pub and_stem : (u : Bool) → Told names e (record { place = Stem (lines e + p); value = u })
    and_stem u =
        and_told (record { place = Stem (lines e + p); value = u }) (all_at e.polarity (used_inputs e) (not u) false) u (InGate-stem (lines e) p u) (Contains-all_at e.polarity (used_inputs e) (not u) false)
        (product_all_at e (not u) false of.t stands below (wide_some of.t wide)) (λ w v two. at_stem w (lines e) p u _ (two.faulty p _ gate_sits))

    -- where a pin is held the gate is 1 where all its pins see 1
    and_faulty : (q : ℕ) (u : Bool) (x : Set) (w v : List Bool) → TwoRuns names e (stuck p q u) p x w v → value_of w (lines e + p) ≡ all_see (stuck p q u) w p 0 pins
    and_faulty q u x w v two = two.faulty p _ gate_sits ∙ table-and (stuck p q u) w p _ pins

    -- the pin at 0 where all literals are 1, and at 1 where its literal alone is 0
    pub and_pin : (q : ℕ) (u : Bool) → q < length (members of.t) → Told names e (record { place = Pin p q; value = u })
    and_pin q false l =
        and_told (record { place = Pin p q; value = false }) (all_at e.polarity (used_inputs e) true false) false (InGate-pin (lines e) p q false) (Contains-all_at e.polarity (used_inputs e) true false)
        (product_all_at e true false of.t stands below (wide_some of.t wide))
        (λ w v two. and_faulty q false _ w v two ∙ all_see-false (stuck p q false) w p pins q (omega (arith, l, length-map (members of.t) (literal_signal e))) (at_pin p q false _))
    and_pin q true l =
        let j : ℕ = slice_index (members of.t) q in
        let m : has of.t j ≡ true = member q l in
        and_told (record { place = Pin p q; value = true }) (one_low e.polarity (used_inputs e) j) true (InGate-pin (lines e) p q true) (Contains-one_low e.polarity (used_inputs e) j (member_used e of.t stands below j m).1)
        (product_one_low e of.t stands below j ∙ ap not m)
        (λ w v two. and_faulty q true _ w v two ∙ all_to (stuck p q true) w p 0 pins (λ k lk. let z : 0 + k ≡ k = omega arith in rw z (each_pin w v two k (omega (arith, lk, length-map (members of.t) (literal_signal e))))))
      where
        member : (k : ℕ) → k < length (members of.t) → has of.t (slice_index (members of.t) k) ≡ true
        member k lk = sym (members-has of.t _) ∙ list_any_at (λ m. eqb m (slice_index (members of.t) k)) (members of.t) k 0 lk (eq-eqb (slice_index (members of.t) k) _ refl)

        each_pin : (w v : List Bool) → TwoRuns names e (stuck p q true) p (one_low e.polarity (used_inputs e) (slice_index (members of.t) q)) w v → (k : ℕ) → k < length (members of.t) → sees (stuck p q true) w p k (slice_index pins k) ≡ true
        each_pin w v two k lk =
            elim (cases_eq k q) [
              | inl same ↦ rw same (at_pin p q true _)
              | inr other ↦
                  let i : ℕ = slice_index (members of.t) k in
                  let u = member_used e of.t stands below i (member k lk) in
                  let used : is_used e i ≡ true = used_since e of.t i stands (member k lk) in
                  let apart : i ≢ slice_index (members of.t) q = λ same. other (sym (place_at (members of.t) (Distinct-members of.t) k lk) ∙ ap (place_of (members of.t)) same ∙ place_at (members of.t) (Distinct-members of.t) q l) in
                  at_other_pin p q k true _ other
                  ∙ ap (value_of w) (get_or-map (literal_signal e) (members of.t) k 0 0 lk)
                  ∙ two.before (literal_signal e i) (omega (arith, (literal_read e i u.0 used).0, (few_lines e).0, of.place))
                  ∙ plain_literal names e (stuck p q true) p _ w v two i u.0 used
                  ∙ literal-one_low e.polarity (used_inputs e) (slice_index (members of.t) q) i u.0 u.1
                  ∙ ap not (ne_eqb i (slice_index (members of.t) q) apart)
            ]

  -- ---- the inverter of the control

  module _ (some : list_any has_one e.outs ≡ true) where
    -- a fault that turns its signal turns an output that has the empty term
    start_turns : (fault : Option Fault) (x : Set) (w v : List Bool) → TwoRuns names e fault (length (turned e)) x w v → (o : ℕ) (ts : List Set) → slice_get e.outs o ≡ Some ts → has_one ts ≡ true
        → value_of w (lines e + length (turned e)) ≡ not (value_of v (lines e + length (turned e))) → Turned e w v o
    start_turns fault x w v two o ts there one turns =
        let before = one_before e ts some one in
        let f : Set → Bool = λ t. value_of v (term_signal e t) in
        faulty_port names e fault (length (turned e)) x w v two can f o ts (omega (arith, before.0, chain_after e)) there
        (each_rest e (λ u. value_of w (term_signal e u) ≡ value_of v (term_signal e u)) (λ u su iu s. term_kept names e fault (length (turned e)) x w v two u (omega arith) su iu s (λ uw same. absurd (omega (arith, before.0, same)))) ts (terms_at e can.terms o ts there))
        ∙ ap (λ b. differ b (exor_of f (rest ts))) (rw before.1 turns)
        ∙ differ-assoc true (value_of v (start e ts)) (exor_of f (rest ts))
        ∙ ap not (sym (plain_port names e fault (length (turned e)) x w v two can f o ts there (itself e v (rest ts))))

    -- where all literals are 0 and the control is at c a fault that holds its signal at c is detected
    inverter_told : (fault : Fault) (c : Bool) → InGate (Some fault) (lines e) (length (turned e))
        → ((w v : List Bool) → TwoRuns names e (Some fault) (length (turned e)) (all_at e.polarity (used_inputs e) false c) w v → value_of w (lines e + length (turned e)) ≡ c) → Told names e fault
    inverter_told fault c within holds =
        let found = any_found has_one e.outs some in
        told names e can fault (length (turned e)) _ (control_sits names e some) within (all_at e.polarity (used_inputs e) false c) (Contains-all_at e.polarity (used_inputs e) false c) found.place found.element found.there (λ w v two.
        let plain : value_of v (lines e + length (turned e)) ≡ not c = two.plain _ _ (control_sits names e some) ∙ table-inverter None v (length (turned e)) _ e.polarity.n ∙ ap not (two.inputs e.polarity.n (omega arith) ∙ control-all_at e.polarity (used_inputs e) false c) in
        start_turns (Some fault) _ w v two found.place found.element found.there found.passes (holds w v two ∙ not_not c ∙ ap not (sym plain)))

    pub inverter_stem : (u : Bool) → Told names e (record { place = Stem (lines e + length (turned e)); value = u })
    inverter_stem u = inverter_told (record { place = Stem (lines e + length (turned e)); value = u }) u (InGate-stem (lines e) _ u) (λ w v two. at_stem w (lines e) _ u _ (two.faulty _ _ (control_sits names e some)))

    pub inverter_pin : (u : Bool) → Told names e (record { place = Pin (length (turned e)) 0; value = u })
    inverter_pin u =
        inverter_told (record { place = Pin (length (turned e)) 0; value = u }) (not u) (InGate-pin (lines e) _ 0 u)
        (λ w v two. two.faulty _ _ (control_sits names e some) ∙ table-inverter (stuck (length (turned e)) 0 u) w (length (turned e)) _ e.polarity.n ∙ ap not (at_pin (length (turned e)) 0 u _))

  -- ---- ports and the control

  pub is_port : (o : ℕ) (ts : List Set) → slice_get e.outs o ≡ Some ts → o < length ((reddy_net names e).outputs)
  is_port o ts there = omega (arith, slice_get_within e.outs o ts there, length-outputs names e)

  -- where all literals are 0 only the empty term is 1
  shown_low : (c : Bool) (o : ℕ) (ts : List Set) → slice_get e.outs o ≡ Some ts → has (out (reddy_net names e) None (all_at e.polarity (used_inputs e) false c)) o ≡ differ c (has_one ts)
  shown_low c o ts there =
      let x : Set = all_at e.polarity (used_inputs e) false c in
      shown names e can x o ts there
      ∙ ap₂ differ (control-all_at e.polarity (used_inputs e) false c) (value-rest e x ts (All-get IsInOrder e.outs o ts can.terms.order there)
      ∙ ap (differ (has_one ts)) (none_odd (λ t. product e.polarity t x) (rest ts) (each_rest e (λ t. product e.polarity t x ≡ false) (product_all_at e false c) ts (terms_at e can.terms o ts there)))
      ∙ differ-false (has_one ts))
    where
      none_odd : (f : Set → Bool) (us : List Set) → AllByRecursion (λ t. f t ≡ false) us → exor_of f us ≡ false
      none_odd f [] h = refl
      none_odd f (u ∷ us) (h, hs) = rw (h, none_odd f us hs) refl

  pub port_fault : (o : ℕ) (u : Bool) → o < length e.outs → Told names e (record { place = Port o; value = u })
  port_fault o u l =
      let ts : List Set = get_or e.outs o [] in
      let there : slice_get e.outs o ≡ Some ts = slice_get-get_or e.outs o [] l in
      let c : Bool = differ (has_one ts) (not u) in
      let x : Set = all_at e.polarity (used_inputs e) false c in
      let fault : Fault = record { place = Port o; value = u } in
      (x, Contains-all_at e.polarity (used_inputs e) false c, Differs-turned (reddy_net names e) fault x o (has-out (reddy_net names e) (Some fault) x o (is_port o ts there) ∙ rw (eq-eqb o o refl) (not_not u ∙ ap not (sym (shown_low c o ts there ∙ back (has_one ts) (not u))))))
    where
      back : (a b : Bool) → differ (differ a b) a ≡ b
      back a b = grind arith

  pub control_stem : (u : Bool) → Told names e (record { place = Stem e.polarity.n; value = u })
  control_stem u =
      let l : 0 < length e.outs = omega (arith, can.fits.outputs, can.named.some_output) in
      let ts : List Set = get_or e.outs 0 [] in
      let there : slice_get e.outs 0 ≡ Some ts = slice_get-get_or e.outs 0 [] l in
      let n : Network = reddy_net names e in
      let x : Set = all_at e.polarity (used_inputs e) false (not u) in
      let y : Set = all_at e.polarity (used_inputs e) false u in (
        x,
        Contains-all_at e.polarity (used_inputs e) false (not u),
        Differs-turned n (record { place = Stem e.polarity.n; value = u }) x 0
            (source_out n e.polarity.n u x y (omega (arith, inputs_are names e can)) (control-all_at e.polarity (used_inputs e) false u) (λ k lk other. low_part e.polarity (used_inputs e) false (not u) k other ∙ sym (low_part e.polarity (used_inputs e) false u k other)) 0 (is_port 0 ts there)
            ∙ shown_low u 0 ts there
            ∙ other_way u (has_one ts)
            ∙ ap not (sym (shown_low (not u) 0 ts there))),
      )
