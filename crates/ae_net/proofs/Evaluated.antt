-- A valid network has one evaluation over each kind of values, and relations between two kinds hold at all signals.
use Rattle.std.proofs.Common.{◌≡◌, ℕ, zero, suc, ◌+◌, ◌-◌, ◌<◌, ◌≤◌, inl, inr, List, ◌∷◌, [], ◌++◌, length, map, take, get_or, set, refl, sym, ap, ap₂, ◌∙◌, subst, arith, length-append, add-one}
use Rattle.std.specs.Prelude.{Some, slice_get, slice_index, ◌⊎◌}
use Rattle.std.specs.List.{range_with_len}
use Rattle.std.proofs.lemmas.Bool.{cases_lt}
use Rattle.std.proofs.lemmas.List.{get_or_append_left, get_or_push, get_or-take, take-map, take_more_set, map_push, get_or-map}
use Rattle.std.proofs.lemmas.List.FromFn.{length-map-range_with_len, get_or-map-range_with_len, map-range_with_len_more}
use Rattle.std.proofs.lemmas.Option.{slice_get_within, get_or_from_slice_get, slice_get-get_or}
use Rattle.ae_net.specs.declared.net.Gate.{Gate}
use Rattle.ae_net.specs.declared.net.Place.TheVariants.{Stem, Pin, Port}
use Rattle.ae_net.specs.Network.{Network, signals, gate_at}
use Rattle.ae_net.specs.Valid.{IsValid}
use Rattle.ae_net.specs.Evaluation.{Domain, pin_seen, IsEvaluation, IsLocal, IsKept, HoldsAtEach, value_in, next_value, values_to, values_of, HasOneEvaluation, AreKept, AreAllKept}

pub gate_is : (n : Network) (i : ℕ) (gate : Gate) → slice_get n.gates i ≡ Some gate → gate_at n i ≡ gate
gate_is n i gate e = get_or_from_slice_get n.gates i gate _ e

-- What holds of each input, and of each gate where it holds of its pins' signals, holds of each signal.
pub each_signal : (n : Network) → IsValid n → (P : ℕ → Type 0) → ((j : ℕ) → j < length n.inputs → P j)
    → ((i : ℕ) (gate : Gate) → slice_get n.gates i ≡ Some gate → ((k : ℕ) → k < length gate.pins → P (slice_index gate.pins k)) → P (length n.inputs + i))
    → (s : ℕ) → s < signals n → P s
each_signal n valid P inputs gates s l = below (length n.gates) (omega arith) s l
  where
    below : (k : ℕ) → k ≤ length n.gates → (s : ℕ) → s < length n.inputs + k → P s
    below zero h s l = inputs s (omega arith)
    below (suc k) h s l = last k h s (below k (omega arith)) (cases_lt s (length n.inputs + k)) l
      where
        last : (k : ℕ) → suc k ≤ length n.gates → (s : ℕ) → ((s : ℕ) → s < length n.inputs + k → P s) → (s < length n.inputs + k) ⊎ (length n.inputs + k ≤ s) → s < length n.inputs + suc k → P s
        last k h s before (inl earlier) l = before s earlier
        last k h s before (inr late) l =
            let there : slice_get n.gates k ≡ Some (gate_at n k) = slice_get-get_or n.gates k _ (omega arith) in
            let e : length n.inputs + k ≡ s = omega arith in
            subst P e (gates k (gate_at n k) there (λ q m. before (slice_index (gate_at n k).pins q) ((valid.gates k (gate_at n k) there).earlier q 0 m)))

-- ---- relations

moved : {V W : Type 0} (R : V → W → Type 0) (a a' : V) (b b' : W) → a ≡ a' → b ≡ b' → R a' b' → R a b
moved R a a' b b' e f h = subst (λ v. R v b) (sym e) (subst (R a') (sym f) h)

pub holds_at_each : {V W : Type 0} (R : V → W → Type 0) (n : Network) (d : Domain V) (e : Domain W) (v : ℕ → V) (w : ℕ → W) → IsValid n → IsKept R n d e → IsEvaluation d n v → IsEvaluation e n w → HoldsAtEach R n d e v w
holds_at_each R n d e v w valid kept a b = record { signals = at_signal; ports = λ o l. kept.places (Port o) _ _ (at_signal (slice_index n.outputs o) ((valid.ports o 0 l).1)) }
  where
    at_signal : (s : ℕ) → s < signals n → R (v s) (w s)
    at_signal = each_signal n valid (λ s. R (v s) (w s))
        (λ j l. moved R _ _ _ _ (a.inputs j l) (b.inputs j l) (kept.places (Stem j) _ _ (kept.inputs j l)))
        (λ i gate there pins. moved R _ _ _ _ (a.gates i gate there) (b.gates i gate there)
        (kept.places (Stem (length n.inputs + i)) _ _ (kept.tables (length n.inputs + i) gate (valid.gates i gate there) (pin_seen d v i gate) (pin_seen e w i gate) (λ k l. kept.places (Pin i k) _ _ (pins k l)))))

-- two evaluations agree
pub evaluations_agree : {V : Type 0} (d : Domain V) (n : Network) (v w : ℕ → V) → IsValid n → IsLocal d → IsEvaluation d n v → IsEvaluation d n w → (s : ℕ) → s < signals n → v s ≡ w s
evaluations_agree {V} d n v w valid local a b =
    (holds_at_each (λ x y. x ≡ y) n d d v w valid (record { inputs = λ j l. refl; tables = λ s gate is p q h. local gate p q h; places = λ at x y e. ap (d.seen at) e }) a b).signals

-- ---- the values as they are worked out

module _ {V : Type 0} (d : Domain V) (n : Network) where
  pub length-values_to : (k : ℕ) → length (values_to d n k) ≡ length n.inputs + k
  unfolding values_to
  length-values_to zero = length-map-range_with_len _ 0 (length n.inputs) ∙ omega arith
  length-values_to (suc k) = length-append (values_to d n k) _ ∙ omega (arith, length-values_to k)

  -- the value of gate k, once it is made
  value_made : (k : ℕ) → value_in d (values_to d n (suc k)) (length n.inputs + k) ≡ next_value d n (values_to d n k) k
  unfolding values_to
  value_made k = get_or_push (values_to d n k) _ d.nothing (length n.inputs + k) (length-values_to k)

  value_kept_once : (k s : ℕ) → s < length n.inputs + k → value_in d (values_to d n (suc k)) s ≡ value_in d (values_to d n k) s
  unfolding values_to
  value_kept_once k s h = get_or_append_left (values_to d n k) _ d.nothing s (omega (arith, length-values_to k))

  -- a value that is made stays
  value_kept : (k m s : ℕ) → s < length n.inputs + k → value_in d (values_to d n (m + k)) s ≡ value_in d (values_to d n k) s
  value_kept k zero s h = let e : zero + k ≡ k = omega arith in rw e refl
  value_kept k (suc m) s h = let e : suc m + k ≡ suc (m + k) = omega arith in rw e (value_kept_once (m + k) s (omega arith) ∙ value_kept k m s h)

  value_of_input : (j : ℕ) → j < length n.inputs → value_in d (values_to d n 0) j ≡ d.seen (Stem j) (d.input j)
  unfolding values_to
  value_of_input j h = get_or-map-range_with_len (λ j. d.seen (Stem j) (d.input j)) 0 (length n.inputs) j j d.nothing h (omega arith)

  -- the final value of a signal that is made after k gates
  pub value_final : (k s : ℕ) → k ≤ length n.gates → s < length n.inputs + k → value_in d (values_of d n) s ≡ value_in d (values_to d n k) s
  unfolding values_of
  value_final k s h l = let e : length n.gates ≡ (length n.gates - k) + k = omega arith in rw e (value_kept k (length n.gates - k) s l)

  pub IsEvaluation-values : IsValid n → IsLocal d → IsEvaluation d n (value_in d (values_of d n))
  IsEvaluation-values valid local = record {
    inputs = λ j h. value_final 0 j (omega arith) (omega arith) ∙ value_of_input j h;
    gates = λ i gate e.
        let l : i < length n.gates = slice_get_within n.gates i gate e in
        value_final (suc i) (length n.inputs + i) (omega arith) (omega arith)
        ∙ value_made i
        ∙ ap (λ g. d.seen (Stem (length n.inputs + i)) (d.table g (pin_seen d (value_in d (values_to d n i)) i g))) (gate_is n i gate e)
        ∙ ap (d.seen (Stem (length n.inputs + i)))
        (local gate _ _ (λ k m. ap (d.seen (Pin i k)) (sym (value_final i (slice_index gate.pins k) (omega arith) ((valid.gates i gate e).earlier k 0 m)))));
  }

  length-values_of : length (values_of d n) ≡ signals n
  unfolding values_of
  length-values_of = length-values_to (length n.gates)

  pub one_evaluation : IsValid n → IsLocal d → HasOneEvaluation d n
  one_evaluation valid local = record {
    count = length-values_of;
    is = IsEvaluation-values valid local;
    only = λ value is. evaluations_agree d n value (value_in d (values_of d n)) valid local is (IsEvaluation-values valid local);
  }

-- ---- what is kept of values

module _ {V C : Type 0} (told : C → V) (d : Domain V) (n : Network) where
  -- one more input
  pub input_kept : (cells : List C) (j : ℕ) (value cell : C) → j < length cells → told value ≡ d.input j → told cell ≡ d.seen (Stem j) (told value)
      → map told (take j cells) ≡ map (λ j. d.seen (Stem j) (d.input j)) (range_with_len 0 j) → map told (take (j + 1) (set cells j cell)) ≡ map (λ j. d.seen (Stem j) (d.input j)) (range_with_len 0 (j + 1))
  input_kept cells j value cell l value_is cell_is kept =
      ap (map told) (take_more_set cells j cell l)
      ∙ map_push told (take j cells) cell
      ∙ ap₂ (λ vs v. vs ++ v ∷ []) kept (cell_is ∙ ap (d.seen (Stem j)) value_is)
      ∙ sym (map-range_with_len_more (λ j. d.seen (Stem j) (d.input j)) 0 j j (omega arith))

  -- all inputs
  pub inputs_kept : (cells : List C) (j : ℕ) → j ≡ length n.inputs → map told (take j cells) ≡ map (λ j. d.seen (Stem j) (d.input j)) (range_with_len 0 j) → map told (take (length n.inputs) cells) ≡ values_to d n 0
  unfolding values_to
  inputs_kept cells j all kept = subst (λ m. map told (take m cells) ≡ map (λ j. d.seen (Stem j) (d.input j)) (range_with_len 0 m)) all kept

  -- one more gate
  pub gate_kept : (cells : List C) (k first : ℕ) (gate : Gate) (value cell : C) → IsValid n → first ≡ length n.inputs → slice_get n.gates k ≡ Some gate → signals n ≤ length cells
      → ((v : ℕ → V) → AreKept told gate cells v → told value ≡ d.table gate (pin_seen d v k gate)) → told cell ≡ d.seen (Stem (first + k)) (told value)
      → map told (take (first + k) cells) ≡ values_to d n k → map told (take (first + (k + 1)) (set cells (first + k) cell)) ≡ values_to d n (k + 1)
  unfolding values_to
  gate_kept cells k first gate value cell valid first_is there room value_is cell_is kept =
      let within : k < length n.gates = slice_get_within n.gates k gate there in
      let next : first + (k + 1) ≡ first + k + 1 = omega arith in
      let values = values_to d n k in
      let before : (s : ℕ) (c : C) → s < first + k → slice_get cells s ≡ Some c → told c ≡ value_in d values s =
      λ s c l at.
      ap told (sym (get_or_from_slice_get cells s c c at))
      ∙ sym (get_or-map told cells s c d.nothing (slice_get_within cells s c at))
      ∙ sym (get_or-take (first + k) (map told cells) s d.nothing l)
      ∙ ap (λ vs. get_or vs s d.nothing) (take-map told (first + k) cells ∙ kept) in
      let made : told value ≡ d.table (gate_at n k) (pin_seen d (value_in d values) k (gate_at n k)) =
      value_is (value_in d values) (λ q c m at. before (slice_index gate.pins q) c (omega (arith, first_is, (valid.gates k gate there).earlier q 0 m)) at)
      ∙ ap (λ g. d.table g (pin_seen d (value_in d values) k g)) (sym (gate_is n k gate there)) in
      ap (λ m. map told (take m (set cells (first + k) cell))) next
      ∙ ap (map told) (take_more_set cells (first + k) cell (omega (arith, first_is)))
      ∙ map_push told (take (first + k) cells) cell
      ∙ ap₂ (λ vs v. vs ++ v ∷ []) kept (cell_is ∙ ap₂ (λ f v. d.seen (Stem (f + k)) v) first_is made)
      ∙ ap (values_to d n) (sym (add-one k))

  -- all gates
  pub gates_kept : (cells : List C) (k first : ℕ) → first ≡ length n.inputs → k ≡ length n.gates → map told (take (first + k) cells) ≡ values_to d n k → AreAllKept told d n cells
  unfolding values_of
  gates_kept cells k first first_is all kept s cell l at =
      ap told (sym (get_or_from_slice_get cells s cell cell at))
      ∙ sym (get_or-map told cells s cell d.nothing (slice_get_within cells s cell at))
      ∙ sym (get_or-take (first + k) (map told cells) s d.nothing (omega (arith, l, first_is, all)))
      ∙ ap (λ vs. get_or vs s d.nothing) (take-map told (first + k) cells ∙ kept ∙ ap (values_to d n) all)
