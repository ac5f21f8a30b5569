-- Each fault at a site of the Reddy network is detected, but those of the literals of the source's inputs.
use Rattle.std.proofs.Common.{Bool, ap, arith, eq-eqb, eqb, get_or, inl, inr, length, refl, subst, suc, sym, true, zero-add, ℕ, ◌++◌, ◌+◌, ◌-◌, ◌<◌, ◌∙◌, ◌≡◌}
use Rattle.std.specs.Fmt.{decimal}
use Rattle.std.specs.List.{list_any, range_with_len}
use Rattle.std.specs.Prelude.{codes}
use Rattle.std.proofs.lemmas.Bool.{cases_Bool, cases_eq, cases_lt}
use Rattle.std.proofs.lemmas.List.{length-map}
use Rattle.std.proofs.lemmas.List.Folds.{list_any_at}
use Rattle.std.proofs.lemmas.Option.{same_Some, slice_get_within}
use Rattle.ae_base.specs.Mask.{first, members}
use Rattle.ae_base.proofs.Distinct.{Distinct-filter, Distinct-range}
use Rattle.ae_net.specs.Faults.{IsPlace}
use Rattle.ae_net.specs.Gates.{inverter}
use Rattle.ae_net.specs.Lead.{lead}
use Rattle.ae_net.specs.Names.{Names, inner}
use Rattle.ae_net.specs.declared.net.Gate.{Gate}
use Rattle.ae_net.specs.declared.net.Place.{Place}
use Rattle.ae_net.specs.declared.net.Place.TheVariants.{Pin, Port, Stem}
use Rattle.ae_net.proofs.FaultLaws.{read_within}
use Rattle.expansion.specs.Terms.{Terms, used_inputs}
use Rattle.cascade.specs.Reddy.{and_place, chain_place, has_one, lines, literal_signal, place_of, turned}
use Rattle.cascade.specs.Shows.{CanBuild, reddy_net}
use Rattle.cascade.proofs.Law.{EachAt-gates_for, place_at}
use Rattle.cascade.proofs.Valid.{all_inner, chain_after, inputs_are, length-gates, length-outputs, turned_parts, valid}
use Rattle.universal_tests.specs.Sites.{DetectsAllBut, IsInverterOf, IsOfLiteral}
use Rattle.universal_tests.specs.Universal.{universal_vectors}
use Rattle.universal_tests.proofs.Chains.{InChain, chain_pin, chain_stem, in_chain}
use Rattle.universal_tests.proofs.Gates.{OfTerm, and_pin, and_stem, control_sits, control_stem, gate_sits, inverter_pin, inverter_stem, of_term, port_fault}
use Rattle.universal_tests.proofs.Runs.{Sits, Told, gates_are, parts}

-- ---- what gate stands in a place

-- the inverter in place p is that of input j
pub record Inverts (e : Terms) (p j : ℕ) : Type 0 where
  pub place : p ≡ place_of (turned e) j
  pub listed : list_any (λ i. eqb i j) (turned e) ≡ true

pub inverts : (e : Terms) (p : ℕ) → p < length (turned e) → (j : ℕ) × Inverts e p j
unfolding turned
inverts e p l =
    let j : ℕ = get_or (turned e) p 0 in
    (j, record { place = sym (place_at (turned e) (Distinct-filter _ (range_with_len 0 e.polarity.n) (Distinct-range 0 e.polarity.n)) p l); listed = list_any_at (λ i. eqb i j) (turned e) p 0 l (eq-eqb j j refl) })

pub inverter_sits : (names : Names) (e : Terms) (p j : ℕ) → Inverts e p j → Sits names e p (inverter (inner (lead names) (codes "i" ++ decimal (suc j))) j)
inverter_sits names e p j of =
    subst (λ q. Sits names e q (inverter (inner (lead names) (codes "i" ++ decimal (suc j))) j)) (sym of.place)
    (rw (zero-add (place_of (turned e) j)) at (EachAt-gates_for (Sits names e) 0 (λ _ k. inverter (inner (lead names) (codes "i" ++ decimal (suc k))) k) (turned e) (parts names e).inverted j of.listed))

pub data Part (names : Names) (e : Terms) (p : ℕ) : Type 0 where
  of_literal : (j : ℕ) → Inverts e p j → Part names e p
  of_control : list_any has_one e.outs ≡ true → p ≡ length (turned e) → Part names e p
  of_and : OfTerm e p → Part names e p
  of_output : InChain names e (chain_place e) e.outs p → Part names e p

pub part_of : (names : Names) (e : Terms) → CanBuild names e → (p : ℕ) → p < length ((reddy_net names e).gates) → Part names e p
unfolding and_place
part_of names e can p l =
    let within : p < chain_place e + (all_inner e.outs + length e.outs) = omega (arith, l, ap length (gates_are names e), length-gates (lead names) names e can.fits) in
    elim (cases_lt p (length (turned e))) [
      | inl first ↦ let r = inverts e p first in of_literal r.0 r.1
      | inr second ↦ elim (cases_lt p (and_place e)) [
        | inl control ↦ elim (cases_Bool (list_any has_one e.outs)) [ inl some ↦ of_control some (omega (arith, second, rw some at control)) | inr none ↦ absurd (omega (arith, second, rw none at control)) ]
        | inr third ↦ elim (cases_lt p (chain_place e)) [
          | inl and ↦ of_and (of_term e p third (omega (arith, and, chain_after e)))
          | inr last ↦ of_output (in_chain names e 0 (chain_place e) e.outs names.outputs can.fits.outputs (parts names e).outputs p last within)
        ]
      ]
    ]

-- ---- the sites

module _ (names : Names) (e : Terms) (can : CanBuild names e) where
  -- a site of no literal
  abbrev pub Apart : Place → Type 0
  Apart place = (j : ℕ) → j < e.polarity.n → IsOfLiteral (reddy_net names e) j place → ⊥

  pub of_inverter : (p j : ℕ) → Inverts e p j → (j < e.polarity.n) × IsInverterOf (reddy_net names e) p j
  of_inverter p j of = ((turned_parts e j of.listed).0, (inner (lead names) (codes "i" ++ decimal (suc j)), inverter_sits names e p j of))

  gate_stem : (p : ℕ) (u : Bool) → p < length ((reddy_net names e).gates) → Apart (Stem (lines e + p)) → Told names e (record { place = Stem (lines e + p); value = u })
  gate_stem p u few apart = by_part (part_of names e can p few)
    where
      by_part : Part names e p → Told names e (record { place = Stem (lines e + p); value = u })
      by_part (of_literal j of) = let i = of_inverter p j of in absurd (apart j i.0 (inr (p, ap (λ m. m + p) (sym (inputs_are names e can)), i.1)))
      by_part (of_control some is) = rw is (inverter_stem names e can some u)
      by_part (of_and of) = and_stem names e can p of u
      by_part (of_output of) = chain_stem names e can p of u

  gate_pin : (p q : ℕ) (u : Bool) (gate : Gate) → Sits names e p gate → q < length gate.pins → Apart (Pin p q) → Told names e (record { place = Pin p q; value = u })
  gate_pin p q u gate there within apart = by_part (part_of names e can p (slice_get_within ((reddy_net names e).gates) p gate there))
    where
      by_part : Part names e p → Told names e (record { place = Pin p q; value = u })
      by_part (of_literal j of) = let i = of_inverter p j of in absurd (apart j i.0 i.1)
      by_part (of_control some is) =
          let same = same_Some _ _ (sym (rw is at there) ∙ control_sits names e some) in
          let first : q ≡ 0 = omega (arith, within, ap (λ (g : Gate). length g.pins) same) in
          rw (is, first) (inverter_pin names e can some u)
      by_part (of_and of) = and_pin names e can p of q u (omega (arith, within, ap (λ (g : Gate). length g.pins) (same_Some _ _ (sym there ∙ gate_sits names e can p of)), length-map (members of.t) (literal_signal e)))
      by_part (of_output of) = chain_pin names e can p of q u gate there within

  signal_stem : (s : ℕ) (u : Bool) → s < lines e + length ((reddy_net names e).gates) → Apart (Stem s) → Told names e (record { place = Stem s; value = u })
  signal_stem s u few apart =
      elim (cases_lt s e.polarity.n) [
        | inl source ↦ absurd (apart s source (inl refl))
        | inr late ↦ elim (cases_eq s e.polarity.n) [
          | inl control ↦ rw control (control_stem names e can u)
          | inr gate ↦
              let z : s ≡ lines e + (s - lines e) = omega arith in
              subst (λ q. Told names e (record { place = Stem q; value = u })) (sym z) (gate_stem (s - lines e) u (omega arith) (subst (λ q. Apart (Stem q)) z apart))
        ]
      ]

  place_told : (place : Place) (u : Bool) → IsPlace (reddy_net names e) place → Apart place → Told names e (record { place = place; value = u })
  place_told (Stem s) u h apart = signal_stem s u (omega (arith, read_within (reddy_net names e) (valid names e can) s h, inputs_are names e can)) apart
  place_told (Pin p q) u (gate, there, within) apart = gate_pin p q u gate there within apart
  place_told (Port o) u h apart = port_fault names e can o u (omega (arith, h, length-outputs names e))

pub detects : (names : Names) (e : Terms) → CanBuild names e → DetectsAllBut (reddy_net names e) e.polarity.n (universal_vectors e.polarity (used_inputs e))
detects names e can fault h apart = place_told names e can fault.place fault.value h apart
