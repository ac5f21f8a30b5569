-- The gates that are read are the gates that were written, in their order.
use Rattle.std.proofs.Common.{◌≡◌, ℕ, suc, ◌+◌, ◌<◌, ◌≤◌, true, false, not, List, [], ◌∷◌, ◌++◌, length, map, get_or, refl, sym, ap, ap₂, subst, ◌∙◌, arith}
use Rattle.std.specs.Prelude.{Some, slice_get, All}
use Rattle.std.specs.List.{list_all, AllByRecursion}
use Rattle.std.proofs.lemmas.Bool.{or_from, and_from}
use Rattle.std.proofs.lemmas.List.{append_assoc, length-append, get_or_append_left}
use Rattle.std.proofs.lemmas.List.Elements.{All-from_recursion, recursion_from_All}
use Rattle.ae_base.specs.Name.{is_name}
use Rattle.ae_base.proofs.Distinct.{each_weaker}
use Rattle.ae_net.specs.declared.net.Gate.{Gate}
use Rattle.ae_net.specs.Blif.{name_of}
use Rattle.ae_net.specs.Valid.{IsGate, IsDistinct}
use Rattle.ae_base.specs.Twins.{is_among}
use Rattle.ae_net.specs.Named.{NamedGate, gate_of}
use Rattle.blif_read.specs.Says.{outs, some_unknown}
use Rattle.blif_read.proofs.Places.{AllBelow}
use Rattle.blif_read.proofs.WrittenNames.{among_at, places_back}
use Rattle.blif_read.proofs.WrittenPlacing.{IsInOrder}
use Rattle.blif_read.proofs.WrittenPlain.{IsFit}

-- a gate by the names of its pins
abbrev pub named : List (List ℕ) → Gate → NamedGate
named names gate = record { out = gate.out; pins = map (name_of names) gate.pins; rows = gate.rows; on = gate.on }

-- ---- valid gates, by recursion

-- gates whose first has the signal s
abbrev pub AreValid : ℕ → List Gate → Type 0
AreValid s [] = Unit {0}
AreValid s (gate ∷ gates) = IsGate s gate × AreValid (suc s) gates

pub valid_gates : (s : ℕ) (gates : List Gate) → ((i : ℕ) (gate : Gate) → slice_get gates i ≡ Some gate → IsGate (s + i) gate) → AreValid s gates
valid_gates s [] h = tt
valid_gates s (gate ∷ gates) h =
    let here : s + 0 ≡ s = omega arith in (
      subst (λ (t : ℕ). IsGate t gate) here (h 0 gate refl),
      valid_gates (suc s) gates (λ i g e. let there : s + suc i ≡ suc s + i = omega arith in subst (λ (t : ℕ). IsGate t g) there (h (suc i) g e)),
    )

pub below : (n s : ℕ) (ss : List ℕ) → s ≤ n → All (λ t. t < s) ss → AllBelow n ss
below n s ss le h = each_weaker (λ t. t < s) (λ t. t < n) (λ t lt. omega (arith, lt, le)) ss (recursion_from_All (λ t. t < s) ss h)

-- ---- names of signals

abbrev pub AreNames : List (List ℕ) → Type 0
AreNames ws = AllByRecursion (λ w. is_name w ≡ true) ws

named_at : (names : List (List ℕ)) (s : ℕ) → AreNames names → s < length names → is_name (get_or names s []) ≡ true
named_at names s h lt = All-from_recursion (λ w. is_name w ≡ true) names h s [] lt

pub all_named : (names : List (List ℕ)) (ss : List ℕ) → AreNames names → AllBelow (length names) ss → AreNames (map (name_of names) ss)
all_named names [] h b = tt
all_named names (s ∷ ss) h b = (named_at names s h b.0, all_named names ss h b.1)

pub none_unknown : (names : List (List ℕ)) (ss : List ℕ) → AllBelow (length names) ss → some_unknown names (map (name_of names) ss) ≡ false
none_unknown names [] b = refl
none_unknown names (s ∷ ss) b = or_from _ _ (ap not (among_at names s b.0)) (none_unknown names ss b.1)

pub gates_fit : (names : List (List ℕ)) (s : ℕ) (gates : List Gate) → AreNames names → AreValid s gates → s + length gates ≤ length names → AllByRecursion (IsFit names) gates
gates_fit names s [] named valid few = tt
gates_fit names s (gate ∷ gates) named valid few = (
  record { pins = all_named names gate.pins named (below (length names) s gate.pins (omega (arith, few)) valid.0.earlier); out = valid.0.named; few = valid.0.few_pins },
  gates_fit names (suc s) gates named valid.1 (omega (arith, few)),
)

pub gates_known : (names : List (List ℕ)) (s : ℕ) (gates : List Gate) → AreValid s gates → s + length gates ≤ length names → AllByRecursion (λ gate. AllBelow (length names) gate.pins) gates
gates_known names s [] valid few = tt
gates_known names s (gate ∷ gates) valid few = (below (length names) s gate.pins (omega (arith, few)) valid.0.earlier, gates_known names (suc s) gates valid.1 (omega (arith, few)))

-- ---- they stand in an order

ready_pins : (names known rest : List (List ℕ)) (pins : List ℕ) → names ≡ known ++ rest → AllBelow (length known) pins → list_all (λ pin. is_among pin known) (map (name_of names) pins) ≡ true
ready_pins names known rest [] e b = refl
ready_pins names known rest (pin ∷ pins) e b =
    let same : get_or names pin [] ≡ get_or known pin [] = ap (λ (ns : List (List ℕ)). get_or ns pin []) e ∙ get_or_append_left known rest [] pin b.0 in
    and_from _ _ (ap (λ (w : List ℕ). is_among w known) same ∙ among_at known pin b.0) (ready_pins names known rest pins e b.1)

pub in_order : (names known : List (List ℕ)) (s : ℕ) (gates : List Gate) → AreValid s gates → length known ≡ s → names ≡ known ++ map (λ gate. gate.out) gates → IsInOrder known (map (named names) gates)
in_order names known s [] valid e p = tt
in_order names known s (gate ∷ gates) valid e p = (
  ready_pins names known (map (λ gate. gate.out) (gate ∷ gates)) gate.pins p (below (length known) s gate.pins (omega (arith, e)) valid.0.earlier),
  in_order names (known ++ gate.out ∷ []) (suc s) gates valid.1 (omega (arith, length-append known (gate.out ∷ []), e)) (p ∙ sym (append_assoc known (gate.out ∷ []) (map (λ gate. gate.out) gates))),
)

pub outs_named : (names : List (List ℕ)) (gates : List Gate) → outs (map (named names) gates) ≡ map (λ gate. gate.out) gates
outs_named names [] = refl
outs_named names (gate ∷ gates) = ap (λ (ws : List (List ℕ)). gate.out ∷ ws) (outs_named names gates)

-- ---- each is the gate again

pub gates_back : (names : List (List ℕ)) (s : ℕ) (gates : List Gate) → IsDistinct names → AreValid s gates → s + length gates ≤ length names → map (gate_of names) (map (named names) gates) ≡ gates
gates_back names s [] apart valid few = refl
gates_back names s (gate ∷ gates) apart valid few =
    ap₂ (λ (ps : List ℕ) (gs : List Gate). record { out = gate.out; pins = ps; rows = gate.rows; on = gate.on } ∷ gs)
    (places_back names gate.pins apart (below (length names) s gate.pins (omega (arith, few)) valid.0.earlier)) (gates_back names (suc s) gates apart valid.1 (omega (arith, few)))
