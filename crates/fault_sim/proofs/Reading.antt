-- Lists of the gates that read a signal.
use Rattle.std.proofs.Common.{◌≡◌, ◌≢◌, ℕ, ◌+◌, ◌<◌, inl, inr, List, [], ◌∷◌, ◌++◌, length, length-append, set, sym, ap, ◌∙◌, subst, arith}
use Rattle.std.specs.Prelude.{◌⊎◌, Some, slice_get, slice_index}
use Rattle.std.proofs.lemmas.Option.{get_or_from_slice_get}
use Rattle.ae_net.specs.Network.{Network, gate_at, signals}
use Rattle.ae_net.specs.Valid.{IsValid}
use Rattle.ae_net.specs.declared.net.Gate.{Gate}
use Rattle.fault_sim.proofs.Cones.{there_at}
use Rattle.std.proofs.lemmas.Bool.{cases_eq, cases_lt}
use Rattle.std.proofs.lemmas.List.{get_or-set_same, get_or-set_other, get_or_append_left, get_or-append-add, get_or_past}
use Rattle.fault_sim.specs.Marks.{IsAmong}
use Rattle.fault_sim.specs.Spread.{row}

pub among-left : (xs ys : List ℕ) (i : ℕ) → IsAmong xs i → IsAmong (xs ++ ys) i
among-left xs ys i (k, lt, e) = (k, omega (arith, lt, length-append xs ys), get_or_append_left xs ys 0 k lt ∙ e)

pub among-last : (xs : List ℕ) (y : ℕ) → IsAmong (xs ++ y ∷ []) y
among-last xs y = (length xs, omega (arith, length-append xs (y ∷ [])), let zero : length xs + 0 ≡ length xs = omega arith in ap (λ k. slice_index (xs ++ y ∷ []) k) (sym zero) ∙ get_or-append-add xs (y ∷ []) 0 0)

among-cases : (xs : List ℕ) (y i : ℕ) → IsAmong (xs ++ y ∷ []) i → (IsAmong xs i) ⊎ (i ≡ y)
among-cases xs y i (k, lt, e) =
    elim (cases_lt k (length xs)) [
      | inl less ↦ inl (k, less, sym (get_or_append_left xs (y ∷ []) 0 k less) ∙ e)
      | inr more ↦
          let last : k ≡ length xs + 0 = omega (arith, lt, more, length-append xs (y ∷ [])) in
          inr (sym e ∙ ap (slice_index (xs ++ y ∷ [])) last ∙ get_or-append-add xs (y ∷ []) 0 0)
    ]

-- a gate is added to the list of one signal
row-same : (readers : List (List ℕ)) (p : ℕ) (list : List ℕ) → p < length readers → row (set readers p list) p ≡ list
row-same readers p list within = get_or-set_same readers p list [] within

row-other : (readers : List (List ℕ)) (p s : ℕ) (list : List ℕ) → s ≢ p → row (set readers p list) s ≡ row readers s
row-other readers p s list ne = get_or-set_other readers p s list [] ne

pub added-kept : (readers : List (List ℕ)) (p gate : ℕ) (list : List ℕ) → p < length readers → list ≡ row readers p ++ gate ∷ [] → (s i : ℕ) → IsAmong (row readers s) i → IsAmong (row (set readers p list) s) i
added-kept readers p gate list within is s i among =
    elim (cases_eq s p) [
      | inl e ↦ subst (λ xs. IsAmong xs i) (sym (ap (row (set readers p list)) e ∙ row-same readers p list within ∙ is)) (among-left (row readers p) (gate ∷ []) i (subst (λ t. IsAmong (row readers t) i) e among))
      | inr ne ↦ subst (λ xs. IsAmong xs i) (sym (row-other readers p s list ne)) among
    ]

pub added-self : (readers : List (List ℕ)) (p gate : ℕ) (list : List ℕ) → p < length readers → list ≡ row readers p ++ gate ∷ [] → IsAmong (row (set readers p list) p) gate
added-self readers p gate list within is = subst (λ xs. IsAmong xs gate) (sym (row-same readers p list within ∙ is)) (among-last (row readers p) gate)

pub added-only : (readers : List (List ℕ)) (p gate : ℕ) (list : List ℕ) → p < length readers → list ≡ row readers p ++ gate ∷ [] → (s i : ℕ) → IsAmong (row (set readers p list) s) i → (IsAmong (row readers s) i) ⊎ ((i ≡ gate) × (s ≡ p))
added-only readers p gate list within is s i among =
    elim (cases_eq s p) [
      | inl e ↦ elim (among-cases (row readers p) gate i (subst (λ xs. IsAmong xs i) (ap (row (set readers p list)) e ∙ row-same readers p list within ∙ is) among)) [
        | inl old ↦ inl (subst (λ t. IsAmong (row readers t) i) (sym e) old)
        | inr new ↦ inr (new, e)
      ]
      | inr ne ↦ inl (subst (λ xs. IsAmong xs i) (row-other readers p s list ne) among)
    ]

-- no list has an element
pub none-among : (xs : List ℕ) (i : ℕ) → xs ≡ [] → IsAmong xs i → ⊥
none-among xs i none (k, lt, e) = omega (arith, lt, ap length none)

-- lists past the end, and one more empty list
pub row-more : (lists : List (List ℕ)) (s : ℕ) → ((s : ℕ) → row lists s ≡ []) → row (lists ++ [] ∷ []) s ≡ []
row-more lists s empty =
    elim (cases_lt s (length lists)) [
      | inl less ↦ get_or_append_left lists ([] ∷ []) [] s less ∙ empty s
      | inr more ↦ elim (cases_eq s (length lists + 0)) [
        | inl e ↦ ap (row (lists ++ [] ∷ [])) e ∙ get_or-append-add lists ([] ∷ []) 0 []
        | inr ne ↦ get_or_past (lists ++ [] ∷ []) s [] (omega (arith, more, ne, length-append lists ([] ∷ [])))
      ]
    ]

-- the lists after the first i gates
pub record AreFilled (n : Network) (i : ℕ) (readers : List (List ℕ)) : Type 0 where
  pub all : length readers ≡ signals n
  pub later : (s j : ℕ) → IsAmong (row readers s) j → (s < length n.inputs + j) × (j < length n.gates)
  pub each : (j : ℕ) (gate : Gate) (k : ℕ) → j < i → slice_get n.gates j ≡ Some gate → k < length gate.pins → IsAmong (row readers (slice_index gate.pins k)) j

pub one_gate_more : (n : Network) (i : ℕ) (gate : Gate) (readers old new after : List (List ℕ)) (pins : List ℕ) → old ≡ readers → after ≡ new → pins ≡ gate.pins → gate ≡ gate_at n i → IsValid n → i < length n.gates → length new ≡ length old → ((s j : ℕ) → IsAmong (row old s) j → IsAmong (row new s) j)
    → ((k : ℕ) → k < length pins → IsAmong (row new (slice_index pins k)) i) → ((s j : ℕ) → IsAmong (row new s) j → (IsAmong (row old s) j) ⊎ ((j ≡ i) × IsAmong pins s)) → AreFilled n i readers → AreFilled n (i + 1) after
one_gate_more n i gate readers old new after pins same is same_pins at valid within len kept each only filled = record {
  all = ap length is ∙ len ∙ ap length same ∙ filled.all;
  later = λ s j among. elim (only s j (subst (λ lists. IsAmong (row lists s) j) is among)) [
    | inl before ↦ filled.later s j (subst (λ lists. IsAmong (row lists s) j) same before)
    | inr one ↦
        let pin = one.1 in
        let there : slice_get n.gates i ≡ Some gate = subst (λ g. slice_get n.gates i ≡ Some g) (sym at) (there_at n i within) in
        let earlier : slice_index gate.pins pin.0 < length n.inputs + i = (valid.gates i gate there).earlier pin.0 0 (omega (arith, pin.1, ap length same_pins)) in
        (omega (arith, earlier, ap (λ ps. slice_index ps pin.0) same_pins, pin.2, one.0), omega (arith, one.0, within))
  ];
  each = λ j other k lt there has_pin. subst (λ lists. IsAmong (row lists (slice_index other.pins k)) j) (sym is) (elim (cases_eq j i) [
    | inl e ↦
        let gates : gate ≡ other = at ∙ get_or_from_slice_get n.gates i other _ (ap (slice_get n.gates) (sym e) ∙ there) in
        let same_pin : pins ≡ other.pins = same_pins ∙ ap (λ g. g.pins) gates in
        subst (λ m. IsAmong (row new (slice_index other.pins k)) m) (sym e) (subst (λ ps. IsAmong (row new (slice_index ps k)) i) same_pin (each k (omega (arith, has_pin, ap length same_pin))))
    | inr ne ↦ kept (slice_index other.pins k) j (subst (λ lists. IsAmong (row lists (slice_index other.pins k)) j) (sym same) (filled.each j other k (omega (arith, lt, ne)) there has_pin))
  ]);
}
