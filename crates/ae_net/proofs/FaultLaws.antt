-- The fault list has exactly the faults at places, each once.
use Rattle.std.proofs.Common.{◌≡◌, ◌≢◌, ℕ, ◌+◌, ◌<◌, Bool, true, false, inl, inr, [], ◌∷◌, ◌++◌, length, get_or, refl, sym, ap, ◌∙◌, subst, arith, eqb, eqb-true}
use Rattle.std.specs.Prelude.{filter, Contains, Some, slice_get, ◌⊎◌}
use Rattle.std.specs.List.{list_any, range_with_len, AllByRecursion}
use Rattle.std.proofs.lemmas.Bool.{cases_Bool, false≢true}
use Rattle.std.proofs.lemmas.List.Elements.{Contains-append_left, Contains-append_right, Contains-append_cases}
use Rattle.std.proofs.lemmas.List.Folds.{Any-from_list_any}
use Rattle.std.proofs.lemmas.Option.{slice_get_within, slice_get-get_or, get_or_from_slice_get}
use Rattle.ae_base.proofs.Distinct.{Distinct, AllPairs-from_Distinct, Distinct-append, Distinct-map, Distinct-filter, Distinct-range, Distinct-flat_map, each_always, each-map, each-flat_map, each_weaker, each-append}
use Rattle.ae_net.specs.declared.net.Gate.{Gate}
use Rattle.ae_net.specs.declared.net.Place.{Place}
use Rattle.ae_net.specs.declared.net.Place.TheVariants.{Stem, Pin, Port}
use Rattle.ae_net.specs.declared.net.Fault.{Fault}
use Rattle.ae_net.specs.Faults.{is_read, is_read_by, IsPlace, stems, pins_of, pins, ports, both_values, fault_list}
use Rattle.ae_net.specs.Network.{Network, signals, gate_at}
use Rattle.ae_net.specs.Valid.{IsValid, IsDistinct}
use Rattle.ae_base.proofs.Contained.{nothing_in_none, Contains-cases, Contains-map, Contains-from_map, Contains-filter, Contains-from_filter, Contains-flat_map, Contains-from_flat_map, Contains-range, Contains-from_range}

-- ---- places

-- a signal that is read is one of the network's
pub read_within : (n : Network) → IsValid n → (s : ℕ) → is_read n s ≡ true → s < signals n
read_within n valid s h =
    elim (cases_Bool (is_read_by n.gates s)) [
      | inl by_pin ↦
          let at = Any-from_list_any (λ gate. list_any (λ pin. eqb pin s) gate.pins) n.gates by_pin in
          let gate : Gate = at.1 in
          let there : slice_get n.gates at.0 ≡ Some gate = slice_get-get_or n.gates at.0 gate at.2 ∙ ap Some at.3 in
          let pin = Any-from_list_any (λ pin. eqb pin s) gate.pins at.4 in
          let same : pin.1 ≡ s = eqb-true pin.1 s pin.4 in
          let low : get_or gate.pins pin.0 pin.1 < length n.inputs + at.0 = (valid.gates at.0 gate there).earlier pin.0 pin.1 pin.2 in
          omega (arith, low, pin.3, same, at.2)
      | inr not_by_pin ↦
          let at = Any-from_list_any (λ o. eqb o s) n.outputs (rw not_by_pin at h) in
          let same : at.1 ≡ s = eqb-true at.1 s at.4 in
          omega (arith, (valid.ports at.0 at.1 at.2).1, at.3, same)
    ]

listed_place : (n : Network) → IsValid n → (p : Place) → IsPlace n p → Contains (stems n ++ pins n ++ ports n) p
listed_place n valid (Stem s) h =
    Contains-append_left (stems n ++ pins n) (ports n) (Stem s) (Contains-append_left (stems n) (pins n) (Stem s)
    (Contains-map (λ s. Stem s) (filter (is_read n) (range_with_len 0 (signals n))) s (Contains-filter (is_read n) (range_with_len 0 (signals n)) s (Contains-range (signals n) s (read_within n valid s h)) h)))
listed_place n valid (Pin i k) (gate, there, l) =
    let e : gate_at n i ≡ gate = get_or_from_slice_get n.gates i gate _ there in
    Contains-append_left (stems n ++ pins n) (ports n) (Pin i k) (Contains-append_right (stems n) (pins n) (Pin i k)
    (Contains-flat_map (λ i. pins_of i (gate_at n i)) (range_with_len 0 (length n.gates)) i (Pin i k) (Contains-range (length n.gates) i (slice_get_within n.gates i gate there))
    (subst (λ g. Contains (pins_of i g) (Pin i k)) (sym e) (Contains-map (λ k. Pin i k) (range_with_len 0 (length gate.pins)) k (Contains-range (length gate.pins) k l)))))
listed_place n valid (Port o) h =
    Contains-append_right (stems n ++ pins n) (ports n) (Port o) (Contains-map (λ o. Port o) (range_with_len 0 (length n.outputs)) o (Contains-range (length n.outputs) o h))

stem_is_place : (n : Network) (p : Place) → Contains (stems n) p → IsPlace n p
stem_is_place n p h =
    let s = Contains-from_map (λ s. Stem s) (filter (is_read n) (range_with_len 0 (signals n))) p h in
    subst (IsPlace n) s.2 (Contains-from_filter (is_read n) (range_with_len 0 (signals n)) s.0 s.1).1

pin_is_place : (n : Network) (p : Place) → Contains (pins n) p → IsPlace n p
pin_is_place n p h =
    let at = Contains-from_flat_map (λ i. pins_of i (gate_at n i)) (range_with_len 0 (length n.gates)) p h in
    let l : at.0 < length n.gates = Contains-from_range (length n.gates) at.0 at.1 in
    let k = Contains-from_map (λ k. Pin at.0 k) (range_with_len 0 (length (gate_at n at.0).pins)) p at.2 in
    subst (IsPlace n) k.2 (gate_at n at.0, slice_get-get_or n.gates at.0 _ l, Contains-from_range (length (gate_at n at.0).pins) k.0 k.1)

port_is_place : (n : Network) (p : Place) → Contains (ports n) p → IsPlace n p
port_is_place n p h =
    let o = Contains-from_map (λ o. Port o) (range_with_len 0 (length n.outputs)) p h in
    subst (IsPlace n) o.2 (Contains-from_range (length n.outputs) o.0 o.1)

place_of_listed : (n : Network) (p : Place) → Contains (stems n ++ pins n ++ ports n) p → IsPlace n p
place_of_listed n p h =
    elim (Contains-append_cases (stems n ++ pins n) (ports n) p h) [
      | inl front ↦ elim (Contains-append_cases (stems n) (pins n) p front) [ inl s ↦ stem_is_place n p s | inr k ↦ pin_is_place n p k ]
      | inr o ↦ port_is_place n p o
    ]

-- ---- faults

both_have : (f : Fault) → Contains (both_values f.place) f
both_have f = by_value f.place f.value
  where
    by_value : (p : Place) (v : Bool) → Contains (both_values p) (record { place = p; value = v })
    by_value p false = (0, omega arith, refl)
    by_value p true = (1, omega arith, refl)

abbrev held : Place → Bool → Fault
held p v = record { place = p; value = v }

place_of_both : (p : Place) (f : Fault) → Contains (both_values p) f → f.place ≡ p
place_of_both p f h =
    elim (Contains-cases (held p false) (held p true ∷ []) f h) [
      | inl low ↦ sym (ap (λ g. g.place) low)
      | inr more ↦ elim (Contains-cases (held p true) [] f more) [ inl high ↦ sym (ap (λ g. g.place) high) | inr none ↦ absurd (nothing_in_none f none) ]
    ]

pub fault_listed : (n : Network) → IsValid n → (f : Fault) → IsPlace n f.place → Contains (fault_list n) f
unfolding fault_list
fault_listed n valid f h = Contains-flat_map both_values (stems n ++ pins n ++ ports n) f.place f (listed_place n valid f.place h) (both_have f)

pub place_of_fault : (n : Network) (f : Fault) → Contains (fault_list n) f → IsPlace n f.place
unfolding fault_list
place_of_fault n f h =
    let p = Contains-from_flat_map both_values (stems n ++ pins n ++ ports n) f h in
    subst (IsPlace n) (sym (place_of_both p.0 f p.2)) (place_of_listed n p.0 p.1)

-- ---- once each

abbrev IsStem : Place → Type 0
IsStem p = (s : ℕ) × (p ≡ Stem s)

abbrev IsPinOf : ℕ → Place → Type 0
IsPinOf i p = (k : ℕ) × (p ≡ Pin i k)

abbrev IsPin : Place → Type 0
IsPin p = (i : ℕ) × IsPinOf i p

abbrev IsPort : Place → Type 0
IsPort p = (o : ℕ) × (p ≡ Port o)

stems_are : (n : Network) → AllByRecursion IsStem (stems n)
stems_are n = each-map IsStem (λ s. Stem s) _ (each_always _ (λ s. (s, refl)) (filter (is_read n) (range_with_len 0 (signals n))))

pins_are_of : (i : ℕ) (gate : Gate) → AllByRecursion (IsPinOf i) (pins_of i gate)
pins_are_of i gate = each-map (IsPinOf i) (λ k. Pin i k) _ (each_always _ (λ k. (k, refl)) (range_with_len 0 (length gate.pins)))

pins_are : (n : Network) → AllByRecursion IsPin (pins n)
pins_are n = each-flat_map IsPin (λ i. pins_of i (gate_at n i)) (λ i. each_weaker (IsPinOf i) IsPin (λ p k. (i, k)) _ (pins_are_of i (gate_at n i))) (range_with_len 0 (length n.gates))

ports_are : (n : Network) → AllByRecursion IsPort (ports n)
ports_are n = each-map IsPort (λ o. Port o) _ (each_always _ (λ o. (o, refl)) (range_with_len 0 (length n.outputs)))

stem_once : (s t : ℕ) → Stem s ≡ Stem t → s ≡ t
stem_once s t e = cc

pin_once : (i j k l : ℕ) → Pin i k ≡ Pin j l → (i ≡ j) × (k ≡ l)
pin_once i j k l e = (cc, cc)

port_once : (o q : ℕ) → Port o ≡ Port q → o ≡ q
port_once o q e = cc

pins_once : (n : Network) → Distinct (pins n)
pins_once n =
    Distinct-flat_map (λ i. pins_of i (gate_at n i)) IsPinOf (λ i j p a b. (pin_once i j a.0 b.0 (sym a.1 ∙ b.1)).0)
    (λ i. pins_are_of i (gate_at n i))
    (λ i. Distinct-map (λ k. Pin i k) (λ k l e. (pin_once i i k l e).1) _ (Distinct-range 0 (length (gate_at n i).pins)))
    (range_with_len 0 (length n.gates)) (Distinct-range 0 (length n.gates))

stem_pin : (p q : Place) → IsStem p → IsPin q → p ≢ q
stem_pin p q (s, a) (i, (k, b)) e = let wrong : Stem s ≡ Pin i k = sym a ∙ e ∙ b in cc

port_apart : (p q : Place) → IsStem p ⊎ IsPin p → IsPort q → p ≢ q
port_apart p q (inl (s, a)) (o, b) e = let wrong : Stem s ≡ Port o = sym a ∙ e ∙ b in cc
port_apart p q (inr (i, (k, a))) (o, b) e = let wrong : Pin i k ≡ Port o = sym a ∙ e ∙ b in cc

places_once : (n : Network) → Distinct (stems n ++ pins n ++ ports n)
places_once n =
    Distinct-append (λ p. IsStem p ⊎ IsPin p) IsPort port_apart (stems n ++ pins n) (ports n)
    (each-append (λ p. IsStem p ⊎ IsPin p) (stems n) (pins n) (each_weaker IsStem _ (λ p h. inl h) (stems n) (stems_are n)) (each_weaker IsPin _ (λ p h. inr h) (pins n) (pins_are n)))
    (ports_are n)
    (Distinct-append IsStem IsPin stem_pin (stems n) (pins n) (stems_are n) (pins_are n)
    (Distinct-map (λ s. Stem s) stem_once _ (Distinct-filter (is_read n) _ (Distinct-range 0 (signals n)))) (pins_once n))
    (Distinct-map (λ o. Port o) port_once _ (Distinct-range 0 (length n.outputs)))

pub faults_once : (n : Network) → IsDistinct (fault_list n)
unfolding fault_list
faults_once n =
    AllPairs-from_Distinct _
    (Distinct-flat_map both_values (λ p f. f.place ≡ p) (λ p q f a b. sym a ∙ b) (λ p. (refl, (refl, tt))) (λ p. (((λ e. false≢true (ap (λ f. f.value) e)), tt), (tt, tt))) (stems n ++ pins n ++ ports n) (places_once n))
