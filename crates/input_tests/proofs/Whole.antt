-- Every fault is detected, and the vectors are few.
use Rattle.std.proofs.Common.{Bool, List, [], ap, arith, eq-eqb, eqb, eqb-true, false, inl, inr, length, length-append, not, refl, subst, sym, true, ℕ, ◌&&◌, ◌*◌, ◌++◌, ◌+◌, ◌-◌, ◌<◌, ◌∙◌, ◌∷◌, ◌≡◌, ◌≤◌, ◌⊎◌}
use Rattle.std.specs.List.{flat_map, list_any}
use Rattle.std.specs.Prelude.{Contains, None, Option, Some}
use Rattle.std.proofs.lemmas.Bool.{and_from, cases_Bool, cases_lt, false≢true, lt-ltb, or_cases, or_left, or_right}
use Rattle.std.proofs.lemmas.List.Elements.{Contains-append_left}
use Rattle.std.proofs.lemmas.List.Folds.{list_any-append}
use Rattle.ae_base.specs.Mask.{Set, first, has, len, members}
use Rattle.ae_base.proofs.EachAt.{EachAt-get}
use Rattle.ae_base.proofs.Elements.{All-get, Contains-from_any, any_found, any_kept, each_at, length_filter_le}
use Rattle.ae_base.proofs.Members.{len-members, members-has}
use Rattle.ae_base.proofs.Once.{length_once_le, unrepeated_has}
use Rattle.ae_base.proofs.Sets.{has-where_below}
use Rattle.ae_net.specs.Faults.{IsPlace, is_read, is_read_by}
use Rattle.ae_net.specs.Lead.{lead}
use Rattle.ae_net.specs.Names.{Names}
use Rattle.ae_net.specs.Network.{Network, signals}
use Rattle.ae_net.specs.declared.net.Place.{Place}
use Rattle.ae_net.specs.declared.net.Place.TheVariants.{Pin, Port, Stem}
use Rattle.expansion.specs.Counts.{is_odd}
use Rattle.expansion.specs.Even.{even_inputs}
use Rattle.expansion.specs.Terms.{Terms, is_used, used_inputs}
use Rattle.cascade.specs.Reddy.{gates, lines, turned}
use Rattle.cascade.specs.Shows.{CanBuild, reddy_net}
use Rattle.cascade.proofs.Law.{at_place, shows}
use Rattle.cascade.proofs.Valid.{IsSound, inputs_are, sound_net, turned_parts, valid}
use Rattle.universal_tests.specs.Sites.{IsDetected, IsInverterOf, IsOfLiteral}
use Rattle.universal_tests.specs.Universal.{universal_vectors}
use Rattle.universal_tests.proofs.AtVectors.{universal_few}
use Rattle.universal_tests.proofs.Literals.{detects_odd, inverts_of, pair_detects}
use Rattle.universal_tests.proofs.Runs.{gates_are}
use Rattle.universal_tests.proofs.Whole.{Apart, detects, inverts, of_inverter}
use Rattle.input_tests.specs.Complete.{DetectsAll}
use Rattle.input_tests.specs.Inputs.{first_term, input_vectors_of, pair_at, term_but, term_high}
use Rattle.input_tests.specs.Whole.{cascade_tests, new_ones, vector_bound}
use Rattle.input_tests.proofs.FirstTerm.{FirstAt, at, own, pair, tells}

-- ---- a list's members

flat_has : (f : ℕ → List Set) (x : Set) (j : ℕ) (js : List ℕ) → list_any (λ k. eqb k j) js ≡ true → list_any (λ y. eqb y x) (f j) ≡ true → list_any (λ y. eqb y x) (flat_map f js) ≡ true
flat_has f x j [] h m = absurd (false≢true h)
flat_has f x j (k ∷ ks) h m =
    list_any-append (λ y. eqb y x) (f k) (flat_map f ks)
    ∙ elim (or_cases _ _ h) [ inl e ↦ or_left _ _ (ap (λ i. list_any (λ y. eqb y x) (f i)) (eqb-true k j e) ∙ m) | inr later ↦ or_right _ _ (flat_has f x j ks later m) ]

joined_has : (x : Set) (xs ys : List Set) → list_any (λ y. eqb y x) ys ≡ true → list_any (λ y. eqb y x) (xs ++ new_ones xs ys) ≡ true
joined_has x xs ys h =
    list_any-append (λ y. eqb y x) xs (new_ones xs ys)
    ∙ elim (cases_Bool (list_any (λ y. eqb y x) xs)) [ inl e ↦ or_left _ _ e | inr none ↦ or_right _ _ (any_kept (λ y. not (list_any (λ z. eqb z y) xs)) x (ap not none) ys h) ]

universal_in : (e : Terms) (x : Set) → Contains (universal_vectors e.polarity (used_inputs e)) x → Contains (cascade_tests e) x
unfolding cascade_tests
universal_in e x h = Contains-append_left (universal_vectors e.polarity (used_inputs e)) _ x h

pair_in : (e : Terms) (j : ℕ) → has (even_inputs e) j ≡ true → (t : Set) → first_term e j ≡ Some t → (b : Bool) → Contains (cascade_tests e) (pair e.polarity (used_inputs e) j t b)
unfolding cascade_tests input_vectors_of
pair_in e j even t first b =
    Contains-from_any _ _ (joined_has x (universal_vectors e.polarity (used_inputs e)) _ (unrepeated_has x _
    (flat_has (λ k. pair_at e.polarity (used_inputs e) k (first_term e k)) x j (members (even_inputs e)) (members-has (even_inputs e) j ∙ even) (rw first (one_of b)))))
  where
    x : Set
    x = pair e.polarity (used_inputs e) j t b

    one_of : (b : Bool) → list_any (λ y. eqb y (pair e.polarity (used_inputs e) j t b)) (pair_at e.polarity (used_inputs e) j (Some t)) ≡ true
    one_of true = or_left _ _ (eq-eqb (term_high e.polarity (used_inputs e) t) _ refl)
    one_of false = or_right _ _ (or_left _ _ (eq-eqb (term_but e.polarity (used_inputs e) j t) _ refl))

-- ---- every fault

used_member : (e : Terms) (j : ℕ) → j < e.polarity.n → is_used e j ≡ true → has (used_inputs e) j ≡ true
unfolding used_inputs
used_member e j l used = has-where_below e.polarity.n (is_used e) j ∙ and_from _ _ (lt-ltb j e.polarity.n l) used

module _ (names : Names) (e : Terms) (can : CanBuild names e) where
  -- an input that is read is used
  read_used : (j : ℕ) → j < e.polarity.n → is_read (reddy_net names e) j ≡ true → is_used e j ≡ true
  read_used j l m =
      let n : Network = reddy_net names e in
      elim (or_cases _ _ m) [
        | inl gate ↦
            let found = any_found (λ g. list_any (λ pin. eqb pin j) g.pins) (gates (lead names) names e) (subst (λ gs. is_read_by gs j ≡ true) (gates_are names e) gate) in
            each_at (λ pin. pin < e.polarity.n → is_used e pin ≡ true) j found.element.pins (EachAt-get (IsSound e) (lines e) (gates (lead names) names e) (sound_net names e can) found.place found.element found.there).1 found.passes l
        | inr output ↦
            let found = any_found (λ o. eqb o j) n.outputs output in
            let late = All-get (λ s. (length n.inputs ≤ s) × (s < signals n)) n.outputs found.place found.element (valid names e can).ports found.there in
            absurd (omega (arith, late.0, eqb-true found.element j found.passes, inputs_are names e can, l))
      ]

  abbrev Of : Place → Type 0
  Of place = (j : ℕ) × (j < e.polarity.n) × IsOfLiteral (reddy_net names e) j place

  gate_of : (p : ℕ) → ((j : ℕ) × (j < e.polarity.n) × IsInverterOf (reddy_net names e) p j) ⊎ ((j : ℕ) → j < e.polarity.n → IsInverterOf (reddy_net names e) p j → ⊥)
  gate_of p =
      elim (cases_lt p (length (turned e))) [
        | inl early ↦ let i = inverts e p early in let is = of_inverter names e can p i.0 i.1 in inl (i.0, is.0, is.1)
        | inr late ↦ inr (λ j l is. let of = inverts_of names e can j l p is in absurd (omega (arith, late, of.place, (at_place (turned e) j of.listed).0)))
      ]

  site_of : (place : Place) → Of place ⊎ Apart names e can place
  site_of (Stem s) =
      elim (cases_lt s e.polarity.n) [
        | inl source ↦ inl (s, source, inl refl)
        | inr late ↦ elim (gate_of (s - lines e)) [
          | inl r ↦ elim (cases_lt s (lines e)) [
            | inl control ↦ inr (no_literal late (λ i same. omega (arith, same, control, inputs_are names e can)))
            | inr gate ↦ inl (r.0, r.1, inr (s - lines e, omega (arith, gate, inputs_are names e can), r.2))
          ]
          | inr never ↦ inr (λ j l of. elim of [
            | inl same ↦ absurd (omega (arith, same, l, late))
            | inr (i, same, is) ↦ let z : i ≡ s - lines e = omega (arith, same, inputs_are names e can) in never j l (subst (λ p. IsInverterOf (reddy_net names e) p j) z is)
          ])
        ]
      ]
    where
      no_literal : e.polarity.n ≤ s → ((i : ℕ) → s ≡ length ((reddy_net names e).inputs) + i → ⊥) → Apart names e can (Stem s)
      no_literal late none j l (inl same) = absurd (omega (arith, same, l, late))
      no_literal late none j l (inr (i, same, is)) = none i same
  site_of (Pin p q) = elim (gate_of p) [ inl r ↦ inl r | inr never ↦ inr never ]
  site_of (Port o) = inr (λ j l of. absurd of)

  -- an input whose literal has a site is used
  site_used : (j : ℕ) → j < e.polarity.n → (place : Place) → IsPlace (reddy_net names e) place → IsOfLiteral (reddy_net names e) j place → is_used e j ≡ true
  site_used j l (Stem s) h (inl same) = read_used j l (ap (is_read (reddy_net names e)) (sym same) ∙ h)
  site_used j l (Stem s) h (inr (p, same, is)) = (turned_parts e j (inverts_of names e can j l p is).listed).1
  site_used j l (Pin p q) h is = (turned_parts e j (inverts_of names e can j l p is).listed).1
  site_used j l (Port o) h of = absurd of

  pub detects_all : ((j : ℕ) → has (even_inputs e) j ≡ (has (used_inputs e) j && not (is_odd e j))) → DetectsAll (reddy_net names e) (cascade_tests e)
  detects_all counted fault h =
      elim (site_of fault.place) [
        | inr apart ↦ wider (detects names e can fault h apart)
        | inl (j, l, of) ↦ elim (cases_Bool (is_odd e j)) [
          | inl odd ↦ wider (detects_odd names e can fault j (l, odd) h of)
          | inr even ↦
              let used = site_used j l fault.place h of in
              let first : FirstAt j e.outs = at names e can j used in
              let r = pair_detects names e can j l first.o first.ts (own names e can j used) (tells names e can j used) fault.place fault.value h of in
              (own names e can j used r.0, pair_in e j (counted j ∙ and_from _ _ (used_member e j l used) (ap not even)) _ first.overall r.0, r.1)
        ]
      ]
    where
      wider : IsDetected (reddy_net names e) (universal_vectors e.polarity (used_inputs e)) fault → IsDetected (reddy_net names e) (cascade_tests e) fault
      wider (x, there, shows) = (x, universal_in e x there, shows)

-- ---- how many there are

pairs_few : (e : Terms) (js : List ℕ) → length (flat_map (λ j. pair_at e.polarity (used_inputs e) j (first_term e j)) js) ≤ 2 * length js
pairs_few e [] = omega arith
pairs_few e (j ∷ js) = omega (arith, length-append (pair_at e.polarity (used_inputs e) j (first_term e j)) (flat_map (λ j. pair_at e.polarity (used_inputs e) j (first_term e j)) js), two (first_term e j), pairs_few e js)
  where
    two : (t : Option Set) → length (pair_at e.polarity (used_inputs e) j t) ≤ 2
    two None = omega arith
    two (Some t) = omega arith

-- at most two vectors for each even input
pub two_each : (e : Terms) → length (input_vectors_of e) ≤ 2 * len (even_inputs e)
unfolding input_vectors_of
two_each e =
    let pairs = flat_map (λ j. pair_at e.polarity (used_inputs e) j (first_term e j)) (members (even_inputs e)) in
    omega (arith, length_once_le pairs, pairs_few e (members (even_inputs e)), len-members (even_inputs e))

pub few : (e : Terms) → length (cascade_tests e) ≤ vector_bound e.polarity.n (even_inputs e)
unfolding cascade_tests
few e =
    let universal = universal_vectors e.polarity (used_inputs e) in
    omega (
      arith,
      length-append universal (new_ones universal (input_vectors_of e)),
      length_filter_le (λ y. not (list_any (λ x. eqb x y) universal)) (input_vectors_of e),
      two_each e,
      universal_few e,
    )
