-- A fault at the stem or at a pin of a gate of a chain is detected: where it turns the gate's signal, it turns the output of the chain.
use Rattle.std.proofs.Common.{Bool, List, [], ap, ap₂, arith, eq-eqb, eqb, false, inl, inr, length, not, refl, suc, sym, true, zero, ℕ, ◌++◌, ◌+◌, ◌-◌, ◌<◌, ◌∙◌, ◌∷◌, ◌≡◌, ◌≤◌}
use Rattle.std.specs.Fmt.{decimal}
use Rattle.std.specs.List.{AllByRecursion, list_any}
use Rattle.std.specs.Prelude.{None, Option, Some, codes, slice_get, slice_index, ◌⊎◌}
use Rattle.std.proofs.lemmas.Bool.{cases_eq, cases_lt, or_left, or_right}
use Rattle.std.proofs.lemmas.Option.{same_Some}
use Rattle.ae_base.specs.Cube.{holds}
use Rattle.ae_base.specs.Mask.{Set, differ, first, has}
use Rattle.ae_base.specs.Terms.{exor_of}
use Rattle.ae_base.proofs.EachAt.{EachAt, EachAt-split}
use Rattle.ae_base.proofs.Elements.{each_at}
use Rattle.ae_base.proofs.Truth.{differ-assoc, differ-false, differ-not_right, not_not}
use Rattle.ae_net.specs.Follows.{Fits, Follows}
use Rattle.ae_net.specs.Gates.{buffer, exor}
use Rattle.ae_net.specs.Lead.{lead}
use Rattle.ae_net.specs.Names.{Names, inner}
use Rattle.ae_net.specs.Out.{out}
use Rattle.ae_net.specs.Run.{value_of}
use Rattle.ae_net.specs.declared.net.Fault.{Fault}
use Rattle.ae_net.specs.declared.net.Gate.{Gate}
use Rattle.ae_net.specs.declared.net.Place.TheVariants.{Pin, Stem}
use Rattle.ae_net.proofs.Tables.{table-buffer, table-exor}
use Rattle.expansion.specs.Terms.{Terms, used_inputs}
use Rattle.cascade.specs.Reddy.{chain, chain_place, chains, ends, has_one, inner_gates, lines, links, rest, start, term_signal, wide_terms}
use Rattle.cascade.specs.Shows.{CanBuild}
use Rattle.cascade.proofs.Law.{IsTerm, Shows, at_place, each_rest, length-chain, terms_at, value-links, wide_stands}
use Rattle.cascade.proofs.Valid.{all_inner, chain_after, few_lines, start_read}
use Rattle.universal_tests.proofs.AtVectors.{Contains-all_at, all_at, control-all_at, product_all_at}
use Rattle.universal_tests.proofs.Runs.{Follows-quiet, InGate, InGate-pin, InGate-stem, Sits, Told, Turned, TwoRuns, at_other_pin, at_pin, at_stem, faulty, itself, plain, plain_start, plain_term, stuck, term_kept, told}

-- ---- from a gate of a chain to its end

links_turn : (k : ℕ) (e : Terms) (f : Set → Bool) (fault : Option Fault) (p : ℕ) (w v : List Bool) (out : List ℕ) (c i y d : ℕ) (t : Set) (ts : List Set) → InGate fault (lines e) p → p ≡ i + d → d ≤ length ts
    → Follows fault w (lines e) i (links k e out c i y t ts) → Follows None v (lines e) i (links k e out c i y t ts) → Shows e w f (t ∷ ts) → Shows e v f (t ∷ ts)
    → value_of w (lines e + p) ≡ not (value_of v (lines e + p)) → value_of w (lines e + (i + length ts)) ≡ not (value_of v (lines e + (i + length ts)))
unfolding EachAt
links_turn k e f fault p w v out c i y d t [] within place l fw fv sw sv turns = let z : i + 0 ≡ p = omega (arith, l) in rw z turns
links_turn k e f fault p w v out c i y zero t (u ∷ us) within place l (h, hs) (g, gs) (s, ss) (r, rs) turns =
    let z : i + suc (length us) ≡ suc i + length us = omega arith in
    let here : p ≡ i = omega arith in
    rw z (value-links k e w f out (suc c) (suc i) (lines e + i) u us (Follows-quiet fault w (lines e) p (suc i) _ within (λ j a b same. absurd (omega arith)) hs) ss
    ∙ ap (λ b. differ b (exor_of f (u ∷ us))) (rw here at turns)
    ∙ differ-assoc true (value_of v (lines e + i)) (exor_of f (u ∷ us))
    ∙ ap not (sym (value-links k e v f out (suc c) (suc i) (lines e + i) u us gs rs)))
links_turn k e f fault p w v out c i y (suc d) t (u ∷ us) within place l (h, hs) (g, gs) (s, ss) (r, rs) turns =
    let z : i + suc (length us) ≡ suc i + length us = omega arith in
    rw z (links_turn k e f fault p w v out (suc c) (suc i) (lines e + i) d u us within (omega arith) (omega (arith, l)) hs gs ss rs turns)

chain_turn : (k : ℕ) (e : Terms) (f : Set → Bool) (fault : Option Fault) (p : ℕ) (w v : List Bool) (out : List ℕ) (c i y d : ℕ) (ts : List Set) → InGate fault (lines e) p → p ≡ i + d → d ≤ length ts - 1
    → Follows fault w (lines e) i (chain k e out c i y ts) → Follows None v (lines e) i (chain k e out c i y ts) → Shows e w f ts → Shows e v f ts
    → value_of w (lines e + p) ≡ not (value_of v (lines e + p)) → value_of w (lines e + (i + (length ts - 1))) ≡ not (value_of v (lines e + (i + (length ts - 1))))
chain_turn k e f fault p w v out c i y d [] within place l fw fv sw sv turns = let z : i + (0 - 1) ≡ p = omega arith in rw z turns
chain_turn k e f fault p w v out c i y d (t ∷ ts) within place l fw fv sw sv turns =
    let z : i + (suc (length ts) - 1) ≡ i + length ts = omega arith in
    rw z (links_turn k e f fault p w v out c i y d t ts within place (omega (arith, l)) fw fv sw sv turns)

-- ---- a gate of a chain

module _ (names : Names) (e : Terms) where
  -- gate p of a chain that starts at the line y: the EXOR of the line before it, which is y's where all terms are 0, and of a term
  pub record Linked (y p : ℕ) (ts : List Set) : Type 0 where
    pub name : List ℕ
    pub line : ℕ
    pub term : Set
    pub sits : Sits names e p (exor name line (term_signal e term))
    pub earlier : line < lines e + p
    pub member : list_any (λ u. eqb u term) ts ≡ true
    pub at_zero : (v : List Bool) → ((i : ℕ) (g : Gate) → Sits names e i g → Fits None v (lines e) i g) → Shows e v (λ u. false) ts → value_of v line ≡ value_of v y

  linked : (p : ℕ) (out : List ℕ) (c i y d : ℕ) (t : Set) (ts : List Set) → EachAt (Sits names e) i (links (lead names) e out c i y t ts) → y < lines e + i → p ≡ i + d → d ≤ length ts → Linked y p (t ∷ ts)
  unfolding EachAt
  linked p out c i y zero t [] (h, _) low place l = let here : p ≡ i = omega arith in record { name = out; line = y; term = t; sits = rw here h; earlier = omega arith; member = or_left _ _ (eq-eqb t t refl); at_zero = λ v fits z. refl }
  linked p out c i y (suc d) t [] h low place l = absurd (omega (arith, l))
  linked p out c i y zero t (u ∷ us) (h, _) low place l = let here : p ≡ i = omega arith in record { name = inner (lead names) (codes "x" ++ decimal (suc c)); line = y; term = t; sits = rw here h; earlier = omega arith; member = or_left _ _ (eq-eqb t t refl); at_zero = λ v fits z. refl }
  linked p out c i y (suc d) t (u ∷ us) (h, hs) low place l =
      let r : Linked (lines e + i) p (u ∷ us) = linked p out (suc c) (suc i) (lines e + i) d u us hs (omega arith) (omega arith) (omega (arith, l)) in
      record {
        name = r.name;
        line = r.line;
        term = r.term;
        sits = r.sits;
        earlier = r.earlier;
        member = or_right _ _ r.member;
        at_zero = λ v fits z. r.at_zero v fits z.1 ∙ fits i _ h ∙ table-exor None v i _ y (term_signal e t) ∙ ap (differ (value_of v y)) z.0 ∙ differ-false (value_of v y);
      }

  -- gate p is gate d of output o's chain, which begins in place `begin`
  pub record InChain (i : ℕ) (tss : List (List Set)) (p : ℕ) : Type 0 where
    pub o : ℕ
    pub ts : List Set
    pub d : ℕ
    pub begin : ℕ
    pub name : List ℕ
    pub inner_before : ℕ
    pub there : slice_get tss o ≡ Some ts
    pub place : p ≡ begin + d
    pub few : d ≤ inner_gates ts
    pub late : i ≤ begin
    pub port : slice_index (ends e i tss) o ≡ lines e + (begin + inner_gates ts)
    pub gates : EachAt (Sits names e) begin (chain (lead names) e name inner_before begin (start e ts) (rest ts))

  pub in_chain : (c i : ℕ) (tss : List (List Set)) (outs : List (List ℕ)) → length tss ≡ length outs → EachAt (Sits names e) i (chains (lead names) e c i tss outs) → (p : ℕ) → i ≤ p → p < i + (all_inner tss + length tss) → InChain i tss p
  in_chain c i [] outs same h p low high = absurd (omega (arith, high))
  in_chain c i (ts ∷ tss) [] same h p low high = absurd (omega (arith, same))
  in_chain c i (ts ∷ tss) (out ∷ outs) same h p low high =
      let gs : List Gate = chain (lead names) e out c i (start e ts) (rest ts) in
      let split = EachAt-split (Sits names e) i gs _ h in
      let z : i + length gs ≡ suc (i + inner_gates ts) = omega (arith, length-chain (lead names) e out c i (start e ts) (rest ts)) in
      elim (cases_lt p (suc (i + inner_gates ts))) [
        | inl here ↦ record { o = 0; ts = ts; d = p - i; begin = i; name = out; inner_before = c; there = refl; place = omega arith; few = omega arith; late = omega arith; port = refl; gates = split.0 }
        | inr later ↦
            let r = in_chain (c + inner_gates ts) (suc (i + inner_gates ts)) tss outs (omega (arith, same)) (rw z at split.1) p later (omega (arith, high)) in
            record { o = suc r.o; ts = r.ts; d = r.d; begin = r.begin; name = r.name; inner_before = r.inner_before; there = r.there; place = r.place; few = r.few; late = omega (arith, r.late); port = r.port; gates = r.gates }
      ]

-- ---- a fault in a chain

module _ (names : Names) (e : Terms) (can : CanBuild names e) (p : ℕ) (of : InChain names e (chain_place e) e.outs p) where
  -- a gate of a chain is a buffer of its start, or joins a term
  chain_gate : (c i y d : ℕ) (ts : List Set) → EachAt (Sits names e) i (chain (lead names) e of.name c i y ts) → y < lines e + i → p ≡ i + d → d ≤ length ts - 1 → ((name : List ℕ) × Sits names e p (buffer name y)) ⊎ Linked names e y p ts
  unfolding EachAt
  chain_gate c i y d [] (h, _) low place l = let here : p ≡ i = omega (arith, l) in inl (of.name, rw here h)
  chain_gate c i y d (t ∷ ts) h low place l = inr (linked names e p of.name c i y d t ts h low place (omega (arith, l)))

  pub chain_sits : ((name : List ℕ) × Sits names e p (buffer name (start e of.ts))) ⊎ Linked names e (start e of.ts) p (rest of.ts)
  chain_sits = chain_gate of.inner_before of.begin (start e of.ts) of.d (rest of.ts) of.gates (omega (arith, (start_read e of.o of.ts of.there).1, chain_after e, of.late)) of.place of.few

  terms : AllByRecursion (IsTerm e) of.ts
  terms = terms_at e can.terms of.o of.ts of.there

  module _ (fault : Option Fault) (x : Set) (w v : List Bool) (two : TwoRuns names e fault p x w v) where
    -- the terms show the same
    terms_kept : Shows e w (λ t. value_of v (term_signal e t)) (rest of.ts)
    terms_kept =
        each_rest e (λ t. value_of w (term_signal e t) ≡ value_of v (term_signal e t))
        (λ u su iu some. term_kept names e fault p x w v two u (omega (arith, of.late, of.place, (few_lines e).0, chain_after e)) su iu some (λ uw same. absurd (omega (arith, of.late, of.place, chain_after e, same, (at_place (wide_terms e) u (wide_stands e u su uw)).0)))) of.ts terms

    chain_turns : value_of w (lines e + p) ≡ not (value_of v (lines e + p)) → Turned e w v of.o
    chain_turns turns =
        rw of.port (chain_turn (lead names) e (λ t. value_of v (term_signal e t)) fault p w v of.name of.inner_before of.begin (start e of.ts) of.d (rest of.ts) two.within of.place of.few
        (faulty names e fault p x w v two of.begin _ of.gates) (plain names e fault p x w v two of.begin _ of.gates) terms_kept (itself e v (rest of.ts)) turns)

    -- where each term shows the same
    terms_same : (b c : Bool) → x ≡ all_at e.polarity (used_inputs e) b c → Shows e v (λ t. b) (rest of.ts)
    terms_same b c is = each_rest e (λ t. value_of v (term_signal e t) ≡ b) (λ t stands below some. plain_term names e fault p x w v two t stands below some ∙ rw is (product_all_at e b c t stands below some)) of.ts terms

    -- where all literals are 0 the gate shows the start of its chain
    gate_plain : (c : Bool) → x ≡ all_at e.polarity (used_inputs e) false c → value_of v (lines e + p) ≡ differ (has_one of.ts) c
    gate_plain c is =
        elim chain_sits [
          | inl b ↦ two.plain _ _ b.1 ∙ table-buffer None v p _ (start e of.ts)
          | inr r ↦ two.plain _ _ r.sits ∙ table-exor None v p _ r.line (term_signal e r.term)
              ∙ ap₂ differ (r.at_zero v two.plain (terms_same false c is)) (each_at (λ t. value_of v (term_signal e t) ≡ false) r.term (rest of.ts) (terms_same false c is) r.member)
              ∙ differ-false (value_of v (start e of.ts))
        ]
        ∙ plain_start names e fault p x w v two of.o of.ts of.there
        ∙ ap (differ (has_one of.ts)) (ap (λ y. has y e.polarity.n) is ∙ control-all_at e.polarity (used_inputs e) false c)

    term_same : (r : Linked names e (start e of.ts) p (rest of.ts)) → value_of w (term_signal e r.term) ≡ value_of v (term_signal e r.term)
    term_same r = each_at (λ t. value_of w (term_signal e t) ≡ value_of v (term_signal e t)) r.term (rest of.ts) terms_kept r.member

  -- a fault that turns the gate's signal at a vector of the list is detected
  chain_told : (fault : Fault) (b c : Bool) → InGate (Some fault) (lines e) p
      → ((w v : List Bool) → TwoRuns names e (Some fault) p (all_at e.polarity (used_inputs e) b c) w v → value_of w (lines e + p) ≡ not (value_of v (lines e + p))) → Told names e fault
  chain_told fault b c within turns =
      let sits : (g : Gate) × Sits names e p g = elim chain_sits [ inl b ↦ (_, b.1) | inr r ↦ (_, r.sits) ] in
      told names e can fault p sits.0 sits.1 within (all_at e.polarity (used_inputs e) b c) (Contains-all_at e.polarity (used_inputs e) b c) of.o of.ts of.there (λ w v two. chain_turns (Some fault) _ w v two (turns w v two))

  -- one that holds it at u is, where all literals are 0 and the control is such that the chain starts at the opposite
  chain_held : (fault : Fault) (u : Bool) → InGate (Some fault) (lines e) p
      → ((w v : List Bool) → TwoRuns names e (Some fault) p (all_at e.polarity (used_inputs e) false (differ (has_one of.ts) (not u))) w v → value_of w (lines e + p) ≡ u) → Told names e fault
  chain_held fault u within holds =
      chain_told fault false (differ (has_one of.ts) (not u)) within (λ w v two. holds w v two ∙ back (has_one of.ts) u ∙ ap not (sym (gate_plain (Some fault) _ w v two (differ (has_one of.ts) (not u)) refl)))
    where
      back : (a u : Bool) → u ≡ not (differ a (differ a (not u)))
      back a u = grind arith

  pub chain_stem : (u : Bool) → Told names e (record { place = Stem (lines e + p); value = u })
  chain_stem u =
      chain_held (record { place = Stem (lines e + p); value = u }) u (InGate-stem (lines e) p u)
      (λ w v two. elim chain_sits [ inl b ↦ at_stem w (lines e) p u _ (two.faulty _ _ b.1) | inr r ↦ at_stem w (lines e) p u _ (two.faulty _ _ r.sits) ])

  chain_pin_line : (u : Bool) → Told names e (record { place = Pin p 0; value = u })
  chain_pin_line u =
      chain_held (record { place = Pin p 0; value = u }) u (InGate-pin (lines e) p 0 u) (λ w v two. elim chain_sits [
        | inl b ↦ two.faulty _ _ b.1 ∙ table-buffer (stuck p 0 u) w p _ (start e of.ts) ∙ at_pin p 0 u _
        | inr r ↦ two.faulty _ _ r.sits ∙ table-exor (stuck p 0 u) w p _ r.line (term_signal e r.term)
            ∙ ap₂ differ (at_pin p 0 u _)
            (at_other_pin p 0 1 u _ (λ same. absurd (omega arith)) ∙ term_same (stuck p 0 u) _ w v two r ∙ each_at (λ t. value_of v (term_signal e t) ≡ false) r.term (rest of.ts) (terms_same (stuck p 0 u) _ w v two false _ refl) r.member)
            ∙ differ-false u
      ])

  chain_pin_term : Linked names e (start e of.ts) p (rest of.ts) → (u : Bool) → Told names e (record { place = Pin p 1; value = u })
  chain_pin_term r u =
      chain_told (record { place = Pin p 1; value = u }) (not u) false (InGate-pin (lines e) p 1 u) (λ w v two.
      two.faulty _ _ r.sits ∙ table-exor (stuck p 1 u) w p _ r.line (term_signal e r.term)
      ∙ ap₂ differ (at_other_pin p 1 0 u _ (λ same. absurd (omega arith)) ∙ two.before r.line r.earlier) (at_pin p 1 u _ ∙ not_not u)
      ∙ differ-not_right (value_of v r.line) (not u)
      ∙ ap (λ b. not (differ (value_of v r.line) b)) (sym (each_at (λ t. value_of v (term_signal e t) ≡ not u) r.term (rest of.ts) (terms_same (stuck p 1 u) _ w v two (not u) false refl) r.member))
      ∙ ap not (sym (two.plain _ _ r.sits ∙ table-exor None v p _ r.line (term_signal e r.term))))

  -- a pin is the first of a buffer or one of the two of an EXOR gate
  pub chain_pin : (q : ℕ) (u : Bool) (gate : Gate) → Sits names e p gate → q < length gate.pins → Told names e (record { place = Pin p q; value = u })
  chain_pin q u gate there within =
      elim (cases_eq q 0) [
        | inl first ↦ rw first (chain_pin_line u)
        | inr later ↦ elim chain_sits [
          | inl b ↦ absurd (omega (arith, within, later, ap (λ (g : Gate). length g.pins) (same_Some _ _ (sym there ∙ b.1))))
          | inr r ↦ let second : q ≡ 1 = omega (arith, within, later, ap (λ (g : Gate). length g.pins) (same_Some _ _ (sym there ∙ r.sits))) in rw second (chain_pin_term r u)
        ]
      ]
