-- A network that shows the values of a source's expansions implements the source.
use Rattle.std.proofs.Common.{◌≡◌, ◌≢◌, ◌<◌, ◌≤◌, ◌-◌, ◌+◌, ℕ, Bool, true, List, [], ◌++◌, length, map, get_or, refl, sym, ap, ◌∙◌, subst, arith, inl, inr}
use Rattle.std.specs.Prelude.{All}
use Rattle.std.proofs.lemmas.Bool.{cases_lt}
use Rattle.std.proofs.lemmas.List.{get_or_append_left, get_or-append_right, length-append, length-map, get_or-map}
use Rattle.std.proofs.lemmas.List.Elements.{All-get_or, All-from_get_or}
use Rattle.ae_net.specs.declared.net.Gate.{Gate}
use Rattle.ae_base.specs.Source.{Specified, is_on}
use Rattle.ae_base.specs.Source.Specified.{On, Off, Free}
use Rattle.ae_net.specs.Network.{Network, signals, gate_at}
use Rattle.ae_net.specs.Valid.{IsValid, IsDistinct}
use Rattle.ae_net.specs.Implements.{Meets, port_names}

-- ---- specified values

pub meets : (s : Specified) (v : Bool) → v ≡ is_on s → Meets s v
meets On v e = e
meets Off v e = e
meets Free v e = tt

-- ---- the names of inputs and ports differ

module _ (n : Network) (valid : IsValid n) where
  abbrev k : ℕ
  k = length n.inputs

  -- the names of the signals, and those of the inputs and the ports
  abbrev all_names : List (List ℕ)
  all_names = n.inputs ++ map (λ gate. gate.out) n.gates

  abbrev listed : List (List ℕ)
  listed = n.inputs ++ port_names n

  length-listed : length listed ≡ k + length n.outputs
  length-listed = length-append n.inputs (port_names n) ∙ ap (λ m. k + m) (length-map n.outputs _)

  length-all : length all_names ≡ k + length n.gates
  length-all = length-append n.inputs _ ∙ ap (λ m. k + m) (length-map n.gates _)

  -- an input is listed at its own place
  input_name : (i : ℕ) (d : List ℕ) → i < k → get_or listed i d ≡ get_or all_names i d
  input_name i d l = get_or_append_left n.inputs (port_names n) d i l ∙ sym (get_or_append_left n.inputs (map (λ gate. gate.out) n.gates) d i l)

  port_signal : ℕ → ℕ
  port_signal i = get_or n.outputs (i - k) 0

  port_range : (i : ℕ) → k ≤ i → i < length listed → (k ≤ port_signal i) × (port_signal i < signals n)
  unfolding port_signal
  port_range i above l = All-get_or (λ s. (k ≤ s) × (s < signals n)) n.outputs (i - k) 0 (omega (arith, above, l, length-listed)) valid.ports

  -- a port is listed with the name of its gate
  port_name : (i : ℕ) (d : List ℕ) → k ≤ i → i < length listed → get_or listed i d ≡ get_or all_names (port_signal i) d
  unfolding port_signal
  port_name i d above l =
      let r = port_range i above l in
      let dummy : Gate = record { out = []; pins = []; rows = []; on = true } in
      get_or-append_right n.inputs (port_names n) k i d refl above
      ∙ get_or-map (λ s. (gate_at n (s - k)).out) n.outputs (i - k) 0 d (omega (arith, above, l, length-listed))
      ∙ sym (get_or-append_right n.inputs (map (λ gate. gate.out) n.gates) k (port_signal i) d refl r.0
      ∙ get_or-map (λ gate. gate.out) n.gates (port_signal i - k) dummy d (omega (arith, r.0, r.1)))

  -- names of different signals differ
  two_names : (s t : ℕ) (d : List ℕ) → s ≢ t → s < length all_names → t < length all_names → get_or all_names s d ≢ get_or all_names t d
  two_names s t d ne ls lt e =
      elim (cases_lt s t) [
        | inl l ↦ valid.names s t d l lt e
        | inr l ↦ valid.names t s d (omega (arith, ne, l)) ls (sym e)
      ]

  ports_apart : (a b : ℕ) → k ≤ a → a < b → b < length listed → port_signal a ≢ port_signal b
  unfolding port_signal
  ports_apart a b above ab lb = valid.other_ports (a - k) (b - k) 0 (omega (arith, above, ab)) (omega (arith, above, ab, lb, length-listed))

  -- the names of the inputs and of the ports differ
  pub listed_distinct : IsDistinct listed
  listed_distinct i j d l lj e =
      elim (cases_lt i k) [
        | inl low_i ↦ elim (cases_lt j k) [
          | inl low_j ↦ two_names i j d (omega (arith, l)) (omega (arith, low_i, length-all)) (omega (arith, low_j, length-all)) (sym (input_name i d low_i) ∙ e ∙ input_name j d low_j)
          | inr above ↦
              let r = port_range j above lj in
              two_names i (port_signal j) d (omega (arith, low_i, r.0)) (omega (arith, low_i, length-all)) (omega (arith, r.1, length-all)) (sym (input_name i d low_i) ∙ e ∙ port_name j d above lj)
        ]
        | inr above_i ↦
            let above_j : k ≤ j = omega (arith, above_i, l) in
            let li : i < length listed = omega (arith, l, lj) in
            let ri = port_range i above_i li in
            let rj = port_range j above_j lj in
            two_names (port_signal i) (port_signal j) d (ports_apart i j above_i l lj) (omega (arith, ri.1, length-all)) (omega (arith, rj.1, length-all)) (sym (port_name i d above_i li) ∙ e ∙ port_name j d above_j lj)
      ]

  -- what each signal's name keeps, the names of the inputs and of the ports keep
  pub all_listed : (P : List ℕ → Type 0) → All P all_names → All P listed
  all_listed P all = All-from_get_or P listed [] (λ i l.
      elim (cases_lt i k) [
        | inl low ↦ subst P (sym (input_name i [] low)) (All-get_or P all_names i [] (omega (arith, low, length-all)) all)
        | inr above ↦ subst P (sym (port_name i [] above l)) (All-get_or P all_names (port_signal i) [] (omega (arith, (port_range i above l).1, length-all)) all)
      ])
