-- The Reddy network is valid, and its ports have the names of the outputs.
use Rattle.std.proofs.Common.{◌≡◌, ◌≢◌, ℕ, zero, suc, ◌+◌, ◌-◌, ◌<◌, ◌≤◌, ◌^◌, Bool, true, false, not, ◌&&◌, cond, inl, inr, List, [], ◌∷◌, ◌++◌, length, map, get_or, refl, sym, ap, ap₂, ◌∙◌, subst, arith, append_assoc, length-append, eqb, eq-eqb}
use Rattle.std.specs.Prelude.{Some, None, filter, slice_get, slice_index, codes, sum}
use Rattle.std.specs.List.{AllByRecursion, list_any, flat_map, range_with_len}
use Rattle.std.specs.Fmt.{decimal}
use Rattle.std.specs.Ordering.{is_lt}
use Rattle.std.proofs.lemmas.Bool.{cases_Bool, false≢true, and_parts, not-true}
use Rattle.std.proofs.lemmas.List.{length-map, map-append, get_or-append-add}
use Rattle.std.proofs.lemmas.List.Concat.{length-flat_map}
use Rattle.std.proofs.lemmas.List.Elements.{All-from_recursion, recursion_from_All}
use Rattle.std.proofs.lemmas.List.FromFn.{length-range_with_len}
use Rattle.std.proofs.lemmas.List.Sums.{sum_by-cons}
use Rattle.std.proofs.lemmas.Map.Keys.{any_passes_from_place}
use Rattle.std.proofs.lemmas.Option.{slice_get-get_or}
use Rattle.ae_base.specs.declared.limits.TheConstants.{NET_LINES, PINS, REDDY_TERMS, SOURCE_LINES, SOURCE_NAME_BYTES}
use Rattle.ae_base.specs.Mask.{Set, differ, has, empty, first, inside, cmp_terms, members}
use Rattle.ae_base.specs.Name.{is_name}
use Rattle.ae_base.specs.Terms.{placed, in_order, value}
use Rattle.ae_base.proofs.Distinct.{Distinct, AllPairs-from_Distinct, Distinct-filter, Distinct-range, each_front, each_weaker, each-append, each-map}
use Rattle.ae_base.proofs.EachAt.{EachAt, EachAt-get, EachAt-join}
use Rattle.ae_base.proofs.Elements.{any_filter_parts, each_at, each_member, length_filter_le, range_below}
use Rattle.ae_base.proofs.Members.{members-has, first_member, length-members}
use Rattle.ae_base.proofs.Sets.{inside-below}
use Rattle.ae_net.specs.declared.gates.Cell.{Cell}
use Rattle.ae_net.specs.declared.gates.Cell.TheVariants.{Inverter, Buffer, And, Exor}
use Rattle.ae_net.specs.declared.net.Gate.{Gate}
use Rattle.ae_net.specs.GateNames.{Group, names_in, numbered, names_to_outputs}
use Rattle.ae_net.specs.Gates.{pins_of, gate_of, inverter, and_gate}
use Rattle.ae_net.specs.Lead.{IsLetter, lead}
use Rattle.ae_net.specs.Names.{Names, IsNames, is_taken, inner}
use Rattle.ae_net.specs.Out.{out}
use Rattle.ae_net.specs.Valid.{IsDistinct, IsGate, IsValid}
use Rattle.ae_net.proofs.GatesValid.{IsGate-cell}
use Rattle.ae_net.proofs.InnerAreNames.{letter_is_name, numbered_is_name}
use Rattle.ae_net.proofs.LeadLemmas.{lead_is_lead, lead_few}
use Rattle.ae_net.proofs.NamesApart.{gate_names_apart, decimals_apart}
use Rattle.expansion.specs.Kept.{IsTerms}
use Rattle.expansion.specs.Terms.{Terms, cost, is_used}
use Rattle.cascade.specs.Reddy.{gates_for, lines, turned, literal_signal, inverters, has_one, control_gates, start, is_wide, wide_terms, and_place, chain_place, term_signal, and_gates, links, chain, rest, inner_gates, chains, ends, gates}
use Rattle.cascade.specs.Shows.{CanBuild, Fits, HasPortNames, reddy_net}
use Rattle.cascade.proofs.Law.{IsTerm, Stands, all_terms, at_place, each_rest, length-chain, length-control_gates, length-ends, length-gates_for, shows, terms_at, turned_stands, used_since, wide_found, wide_stands}

-- ---- the names of the gates

abbrev pub outs_of : List Gate → List (List ℕ)
outs_of gs = map (λ gate. gate.out) gs

-- inner names of one letter, by their numbers
abbrev numbers : ℕ → List ℕ → Group
numbers letter js = record { letter = letter; texts = map (λ j. decimal (suc j)) js }

inverter_names : (k i : ℕ) (js : List ℕ) → outs_of (gates_for (λ _ j. inverter (inner k (codes "i" ++ decimal (suc j))) j) i js) ≡ names_in k (numbers 105 js)
inverter_names k i [] = refl
inverter_names k i (j ∷ js) = ap (λ names. inner k (105 ∷ decimal (suc j)) ∷ names) (inverter_names k (suc i) js)

and_names : (k : ℕ) (e : Terms) (i : ℕ) (ts : List Set) → outs_of (gates_for (λ i t. and_gate (inner k (codes "t" ++ decimal (suc i))) (map (literal_signal e) (members t))) i ts) ≡ names_in k (numbers 116 (range_with_len i (length ts)))
and_names k e i [] = refl
and_names k e i (t ∷ ts) = let z : i + 1 ≡ suc i = omega arith in rw z (ap (λ names. inner k (116 ∷ decimal (suc i)) ∷ names) (and_names k e (suc i) ts))

-- the inverter of the control
abbrev control_group : Terms → Group
control_group e = record { letter = 109; texts = cond (list_any has_one e.outs) ([] ∷ []) [] }

control_names : (k : ℕ) (e : Terms) → outs_of (control_gates k e) ≡ names_in k (control_group e)
unfolding control_gates
control_names k e = elim (cases_Bool (list_any has_one e.outs)) [ inl b ↦ rw b refl | inr b ↦ rw b refl ]

links_names : (k : ℕ) (e : Terms) (out : List ℕ) (c i y : ℕ) (t : Set) (ts : List Set) → outs_of (links k e out c i y t ts) ≡ numbered k 120 c (length ts) ++ out ∷ []
links_names k e out c i y t [] = refl
links_names k e out c i y t (u ∷ us) = let z : c + 1 ≡ suc c = omega arith in rw z (ap (λ names. inner k (120 ∷ decimal (suc c)) ∷ names) (links_names k e out (suc c) (suc i) (lines e + i) u us))

chain_names : (k : ℕ) (e : Terms) (out : List ℕ) (c i y : ℕ) (ts : List Set) → outs_of (chain k e out c i y ts) ≡ numbered k 120 c (length ts - 1) ++ out ∷ []
chain_names k e out c i y [] = refl
chain_names k e out c i y (t ∷ ts) = let z : suc (length ts) - 1 ≡ length ts = omega arith in rw z (links_names k e out c i y t ts)

chains_names : (k : ℕ) (e : Terms) (c i : ℕ) (tss : List (List Set)) (outs : List (List ℕ)) → outs_of (chains k e c i tss outs) ≡ names_to_outputs k 120 c (map inner_gates tss) outs
chains_names k e c i [] outs = refl
chains_names k e c i (ts ∷ tss) [] = refl
chains_names k e c i (ts ∷ tss) (out ∷ outs) =
    map-append (λ (gate : Gate). gate.out) (chain k e out c i (start e ts) (rest ts)) (chains k e (c + inner_gates ts) (suc (i + inner_gates ts)) tss outs)
    ∙ ap₂ (λ (a b : List (List ℕ)). a ++ b) (chain_names k e out c i (start e ts) (rest ts)) (chains_names k e (c + inner_gates ts) (suc (i + inner_gates ts)) tss outs)
    ∙ append_assoc (numbered k 120 c (inner_gates ts)) (out ∷ []) (names_to_outputs k 120 (c + inner_gates ts) (map inner_gates tss) outs)

-- the number of inner gates of all chains
abbrev pub all_inner : List (List Set) → ℕ
all_inner [] = 0
all_inner (ts ∷ tss) = inner_gates ts + all_inner tss

sum_inner : (tss : List (List Set)) → sum (map inner_gates tss) ≡ all_inner tss
sum_inner [] = refl
sum_inner (ts ∷ tss) = sum_by-cons (λ m. m) (inner_gates ts) (map inner_gates tss) ∙ ap (λ m. inner_gates ts + m) (sum_inner tss)

-- the control, the inverters, that of the control, and the AND gates
abbrev groups_of : Terms → List Group
groups_of e = record { letter = 99; texts = [] ∷ [] } ∷ numbers 105 (turned e) ∷ control_group e ∷ numbers 116 (range_with_len 0 (length (wide_terms e))) ∷ []

all_names : (k : ℕ) (names : Names) (e : Terms) → inner k (99 ∷ []) ∷ outs_of (gates k names e) ≡ flat_map (names_in k) (groups_of e) ++ names_to_outputs k 120 0 (map inner_gates e.outs) names.outputs
unfolding gates
all_names k names e =
    simp (map-append, inverter_names k 0 (turned e), control_names k e, and_names k e 0 (wide_terms e), chains_names k e 0 (chain_place e) e.outs names.outputs, append_assoc)

texts_apart : (e : Terms) → e.polarity.n < 2 ^ 63 → length (wide_terms e) < 2 ^ 63 → AllByRecursion (λ (group : Group). IsDistinct group.texts) (groups_of e)
unfolding turned
texts_apart e small_n small_wide = (
  AllPairs-from_Distinct ([] ∷ []) (tt, tt),
  (
    of_numbers e.polarity.n _ small_n,
    (
      elim (cases_Bool (list_any has_one e.outs)) [ inl b ↦ rw b (AllPairs-from_Distinct ([] ∷ []) (tt, tt)) | inr b ↦ rw b (AllPairs-from_Distinct [] tt) ],
      (subst (λ js. IsDistinct (map (λ j. decimal (suc j)) js)) (all_pass 0 (length (wide_terms e))) (of_numbers (length (wide_terms e)) (λ j. true) small_wide), tt),
    ),
  ),
)
  where
    of_numbers : (n : ℕ) (p : ℕ → Bool) → n < 2 ^ 63 → IsDistinct (map (λ j. decimal (suc j)) (filter p (range_with_len 0 n)))
    of_numbers n p small =
        let js : List ℕ = filter p (range_with_len 0 n) in
        decimals_apart js (All-from_recursion (λ j. suc j < 2 ^ 64) js (each_weaker (λ j. j < n) (λ j. suc j < 2 ^ 64) (λ j l. omega (arith, l)) js (range_below p 0 n n (omega arith)))) (AllPairs-from_Distinct js (Distinct-filter p (range_with_len 0 n) (Distinct-range 0 n)))

    all_pass : (a n : ℕ) → filter (λ (j : ℕ). true) (range_with_len a n) ≡ range_with_len a n
    all_pass a zero = refl
    all_pass a (suc n) = ap (λ js. a ∷ js) (all_pass (a + 1) n)

names_apart : (k : ℕ) (names : Names) (e : Terms) → is_taken (names.inputs ++ names.outputs) k ≡ false → IsDistinct (names.inputs ++ names.outputs)
    → e.polarity.n < 2 ^ 63 → length (wide_terms e) < 2 ^ 63 → all_inner e.outs < 2 ^ 64
    → IsDistinct ((names.inputs ++ inner k (codes "c") ∷ []) ++ outs_of (gates k names e))
names_apart k names e free apart small_n small_wide small_inner =
    rw (append_assoc names.inputs (inner k (codes "c") ∷ []) (outs_of (gates k names e)))
    (gate_names_apart k names.inputs names.outputs (inner k (99 ∷ []) ∷ outs_of (gates k names e)) free apart (record {
      groups = groups_of e;
      letter = 120;
      counts = map inner_gates e.outs;
      are = all_names k names e;
      letters = All-from_recursion IsLetter (120 ∷ 99 ∷ 105 ∷ 109 ∷ 116 ∷ []) ((omega arith, omega arith), ((omega arith, omega arith), ((omega arith, omega arith), ((omega arith, omega arith), ((omega arith, omega arith), tt)))));
      other_letters = AllPairs-from_Distinct (120 ∷ 99 ∷ 105 ∷ 109 ∷ 116 ∷ []) letters_apart;
      other_texts = All-from_recursion (λ (group : Group). IsDistinct group.texts) (groups_of e) (texts_apart e small_n small_wide);
      few = omega (arith, small_inner, sum_inner e.outs);
    }))
  where
    ne : (a b : ℕ) → eqb a b ≡ false → a ≢ b
    ne a b h e = false≢true (sym h ∙ eq-eqb a b e)

    letters_apart : Distinct {X = ℕ} (120 ∷ 99 ∷ 105 ∷ 109 ∷ 116 ∷ [])
    letters_apart = (
      (ne 120 99 refl, (ne 120 105 refl, (ne 120 109 refl, (ne 120 116 refl, tt)))),
      ((ne 99 105 refl, (ne 99 109 refl, (ne 99 116 refl, tt))), ((ne 105 109 refl, (ne 105 116 refl, tt)), ((ne 109 116 refl, tt), (tt, tt)))),
    )

-- ---- sizes

length_placed_le : (t : Set) (us : List Set) → length (placed t us) ≤ suc (length us)
length_placed_le t [] = omega arith
length_placed_le t (u ∷ us) =
    elim (cases_Bool (eqb t u)) [
      | inl same ↦ rw same (omega arith)
      | inr other ↦ elim (cases_Bool (is_lt (cmp_terms t u))) [ inl here ↦ rw (other, here) (omega arith) | inr later ↦ rw (other, later) (omega (arith, length_placed_le t us)) ]
    ]

length_in_order_le : (ts : List Set) → length (in_order ts) ≤ length ts
length_in_order_le [] = omega arith
length_in_order_le (t ∷ ts) = omega (arith, length_placed_le t (in_order ts), length_in_order_le ts)

pub few_wide : (e : Terms) → length (wide_terms e) ≤ cost e
unfolding wide_terms
few_wide e = omega (arith, length_in_order_le (filter is_wide (flat_map (λ ts. ts) e.outs)), length_filter_le is_wide (flat_map (λ ts. ts) e.outs), length-flat_map (λ (ts : List Set). ts) e.outs)

pub few_inner : (tss : List (List Set)) → all_inner tss ≤ length (flat_map (λ ts. ts) tss)
few_inner [] = omega arith
few_inner (ts ∷ tss) = omega (arith, few_inner tss, length_filter_le (λ t. not (eqb t empty)) ts, length-append ts (flat_map (λ us. us) tss))

pub few_of_all : (e : Terms) → all_inner e.outs ≤ cost e
few_of_all e = omega (arith, few_inner e.outs, length-flat_map (λ (ts : List Set). ts) e.outs)

pub few_turned : (e : Terms) → length (turned e) ≤ e.polarity.n
unfolding turned
few_turned e = omega (arith, length_filter_le (λ j. is_used e j && not (has e.polarity.plain j)) (range_with_len 0 e.polarity.n), length-range_with_len 0 e.polarity.n)

pub few_lines : (e : Terms) → (length (turned e) ≤ and_place e) × (and_place e ≤ e.polarity.n + 1)
unfolding and_place
few_lines e = elim (cases_Bool (list_any has_one e.outs)) [ inl b ↦ rw b (omega arith, omega (arith, few_turned e)) | inr b ↦ rw b (omega arith, omega (arith, few_turned e)) ]

pub chain_after : (e : Terms) → and_place e + length (wide_terms e) ≡ chain_place e
unfolding chain_place
chain_after e = refl

pub length-inverters : (k : ℕ) (e : Terms) → length (inverters k e) ≡ length (turned e)
length-inverters k e = length-gates_for _ 0 (turned e)

pub length-and_gates : (k : ℕ) (e : Terms) → length (and_gates k e) ≡ length (wide_terms e)
length-and_gates k e = length-gates_for _ 0 (wide_terms e)

pub length-chains : (k : ℕ) (e : Terms) (c i : ℕ) (tss : List (List Set)) (outs : List (List ℕ)) → length tss ≡ length outs → length (chains k e c i tss outs) ≡ all_inner tss + length outs
length-chains k e c i [] [] same = omega arith
length-chains k e c i [] (out ∷ outs) same = absurd (omega (arith, same))
length-chains k e c i (ts ∷ tss) [] same = absurd (omega (arith, same))
length-chains k e c i (ts ∷ tss) (out ∷ outs) same =
    omega (
      arith,
      length-append (chain k e out c i (start e ts) (rest ts)) (chains k e (c + inner_gates ts) (suc (i + inner_gates ts)) tss outs),
      length-chain k e out c i (start e ts) (rest ts),
      length-chains k e (c + inner_gates ts) (suc (i + inner_gates ts)) tss outs (omega (arith, same)),
    )

-- the gates before the chains
abbrev pub front : ℕ → Terms → List Gate
front k e = inverters k e ++ (control_gates k e ++ and_gates k e)

pub front_chains : (k : ℕ) (names : Names) (e : Terms) → gates k names e ≡ front k e ++ chains k e 0 (chain_place e) e.outs names.outputs
unfolding gates
front_chains k names e = sym (simp append_assoc)

pub length-front : (k : ℕ) (e : Terms) → length (front k e) ≡ chain_place e
length-front k e = omega (arith, length-append (inverters k e) (control_gates k e ++ and_gates k e), length-append (control_gates k e) (and_gates k e), length-inverters k e, length-control_gates k e, length-and_gates k e, chain_after e)

-- the number of gates
pub length-gates : (k : ℕ) (names : Names) (e : Terms) → Fits names e → length (gates k names e) ≡ chain_place e + (all_inner e.outs + length e.outs)
length-gates k names e fits =
    omega (arith, ap length (front_chains k names e), length-append (front k e) (chains k e 0 (chain_place e) e.outs names.outputs), length-front k e, length-chains k e 0 (chain_place e) e.outs names.outputs fits.outputs, fits.outputs)

-- ---- the signals that gates read

-- a gate in place s may read this signal: an earlier one, and no input that no output uses
abbrev pub MayRead : Terms → ℕ → ℕ → Type 0
MayRead e s pin = (pin < s) × (pin < e.polarity.n → is_used e pin ≡ true)

later : (e : Terms) (s m : ℕ) → s ≤ m → (pin : ℕ) → MayRead e s pin → MayRead e m pin
later e s m l pin h = (omega (arith, h.0), h.1)

-- what is no source input
past : (e : Terms) (s pin : ℕ) → e.polarity.n ≤ pin → pin < s → MayRead e s pin
past e s pin low l = (l, λ h. absurd (omega arith))

-- an input with an inverter is used, and its literal is complemented
pub turned_parts : (e : Terms) (j : ℕ) → list_any (λ i. eqb i j) (turned e) ≡ true → (j < e.polarity.n) × (is_used e j ≡ true) × (has e.polarity.plain j ≡ false)
unfolding turned
turned_parts e j listed =
    let parts = and_parts _ _ ((any_filter_parts (λ i. is_used e i && not (has e.polarity.plain i)) j (range_with_len 0 e.polarity.n) listed).0) in
    (each_at (λ i. i < e.polarity.n) j (turned e) (range_below _ 0 e.polarity.n e.polarity.n (omega arith)) listed, parts.0, not-true (has e.polarity.plain j) parts.1)

pub literal_read : (e : Terms) (j : ℕ) → j < e.polarity.n → is_used e j ≡ true → MayRead e (lines e + length (turned e)) (literal_signal e j)
unfolding literal_signal
literal_read e j l used =
    elim (cases_Bool (has e.polarity.plain j)) [
      | inl p ↦ rw p (omega arith, λ h. used)
      | inr p ↦ rw p (past e _ _ (omega arith) (omega (arith, (at_place (turned e) j (turned_stands e j l used p)).0)))
    ]

-- the literals of a term are inputs and their inverters
pub literals_read : (e : Terms) (t : Set) → Stands e t → inside t (first e.polarity.n) ≡ true → (s : ℕ) → lines e + length (turned e) ≤ s → AllByRecursion (MayRead e s) (map (literal_signal e) (members t))
literals_read e t stands below s l =
    each-map (MayRead e s) (literal_signal e) (members t) (each_member (λ j. MayRead e s (literal_signal e j)) (members t) (λ j m.
    let h : has t j ≡ true = sym (members-has t j) ∙ m in
    later e (lines e + length (turned e)) s l (literal_signal e j) (literal_read e j (inside-below e.polarity.n t below j h) (used_since e t j stands h))))

pub start_read : (e : Terms) (o : ℕ) (ts : List Set) → slice_get e.outs o ≡ Some ts → (e.polarity.n ≤ start e ts) × (start e ts < lines e + and_place e)
unfolding start and_place
start_read e o ts there =
    elim (cases_Bool (has_one ts)) [ inl one ↦ rw (one, any_passes_from_place has_one e.outs o ts there one) (omega arith, omega arith) | inr none ↦ rw none (omega arith, omega arith) ]

pub term_read : (e : Terms) (t : Set) → Stands e t → inside t (first e.polarity.n) ≡ true → (t ≢ empty) → MayRead e (lines e + chain_place e) (term_signal e t)
unfolding term_signal chain_place
term_read e t stands below some =
    elim (cases_Bool (is_wide t)) [
      | inl wide ↦ rw wide (past e _ _ (omega arith) (omega (arith, (at_place (wide_terms e) t (wide_stands e t stands wide)).0)))
      | inr narrow ↦
          let h : has t (slice_index (members t) 0) ≡ true = first_member t some in
          rw narrow (later e (lines e + length (turned e)) _ (omega (arith, (few_lines e).0)) _ (literal_read e _ (inside-below e.polarity.n t below _ h) (used_since e t _ stands h)))
    ]

-- ---- the gates

-- a gate that reads no input that no output uses
abbrev pub IsSound : Terms → ℕ → Gate → Type 0
IsSound e s g = IsGate s g × AllByRecursion (λ pin. pin < e.polarity.n → is_used e pin ≡ true) g.pins

sound : (e : Terms) (s : ℕ) (out : List ℕ) (cell : Cell) → is_name out ≡ true → AllByRecursion (MayRead e s) (pins_of cell) → length (pins_of cell) ≤ PINS → IsSound e s (gate_of out cell)
sound e s out cell named reads few = (
  IsGate-cell s out cell named (All-from_recursion (λ pin. pin < s) _ (each_weaker (MayRead e s) (λ pin. pin < s) (λ pin h. h.0) (pins_of cell) reads)) few,
  each_weaker (MayRead e s) (λ pin. pin < e.polarity.n → is_used e pin ≡ true) (λ pin h. h.1) (pins_of cell) reads,
)

module _ (e : Terms) (k : ℕ) (short : k ≤ SOURCE_NAME_BYTES + 1) where
  is_numbered : (b n : ℕ) → IsLetter b → n < 2 ^ 64 → is_name (inner k (b ∷ decimal n)) ≡ true
  is_numbered b n letter small = numbered_is_name k b n (inner k (b ∷ decimal n)) refl short letter small

  sound_inverters : (i : ℕ) (js : List ℕ) (s : ℕ) → s + length js < 2 ^ 64 → AllByRecursion (MayRead e s) js → EachAt (IsSound e) s (gates_for (λ _ j. inverter (inner k (codes "i" ++ decimal (suc j))) j) i js)
  unfolding EachAt
  sound_inverters i [] s small h = tt
  sound_inverters i (j ∷ js) s small (h, hs) = (
    sound e s _ (Inverter j) (is_numbered 105 (suc j) (omega arith, omega arith) (omega (arith, h.0, small))) (h, tt) (omega arith),
    sound_inverters (suc i) js (suc s) (omega (arith, small)) (each_weaker (MayRead e s) (MayRead e (suc s)) (later e s (suc s) (omega arith)) js hs),
  )

  sound_control : (s : ℕ) → lines e ≤ s → EachAt (IsSound e) s (control_gates k e)
  unfolding EachAt control_gates
  sound_control s l =
      elim (cases_Bool (list_any has_one e.outs)) [
        | inl b ↦ rw b (sound e s (inner k (109 ∷ [])) (Inverter e.polarity.n) (letter_is_name k 109 _ refl short (omega arith, omega arith)) (past e s e.polarity.n (omega arith) (omega arith), tt) (omega arith), tt)
        | inr b ↦ rw b tt
      ]

  sound_ands : (i : ℕ) (ts : List Set) (s : ℕ) → i + length ts < 2 ^ 64 → e.polarity.n ≤ NET_LINES → lines e + and_place e ≤ s → AllByRecursion (IsTerm e) ts
      → EachAt (IsSound e) s (gates_for (λ i t. and_gate (inner k (codes "t" ++ decimal (suc i))) (map (literal_signal e) (members t))) i ts)
  unfolding EachAt
  sound_ands i [] s small few low h = tt
  sound_ands i (t ∷ ts) s small few low ((stands, below), hs) = (
    sound e s _ (And (map (literal_signal e) (members t))) (is_numbered 116 (suc i) (omega arith, omega arith) (omega (arith, small))) (literals_read e t stands below s (omega (arith, (few_lines e).0, low)))
        (omega (arith, few, length-map (members t) (literal_signal e), length-members e.polarity.n t below)),
    sound_ands (suc i) ts (suc s) (omega (arith, small)) few (omega arith) hs,
  )

  -- a chain's gates, where its start and its terms may be read
  sound_links : (out : List ℕ) (c i y : ℕ) (t : Set) (ts : List Set) → is_name out ≡ true → c + length ts < 2 ^ 64 → MayRead e (lines e + i) y
      → AllByRecursion (λ u. MayRead e (lines e + i) (term_signal e u)) (t ∷ ts) → EachAt (IsSound e) (lines e + i) (links k e out c i y t ts)
  unfolding EachAt
  sound_links out c i y t [] named small l (h, _) = (sound e _ out (Exor y (term_signal e t)) named (l, (h, tt)) (omega arith), tt)
  sound_links out c i y t (u ∷ us) named small l (h, hs) =
      let z : lines e + suc i ≡ suc (lines e + i) = omega arith in (
        sound e _ _ (Exor y (term_signal e t)) (is_numbered 120 (suc c) (omega arith, omega arith) (omega (arith, small))) (l, (h, tt)) (omega arith),
        rw z at (sound_links out (suc c) (suc i) (lines e + i) u us named (omega (arith, small)) (past e _ _ (omega arith) (omega arith))
            (each_weaker (λ v. MayRead e (lines e + i) (term_signal e v)) (λ v. MayRead e (lines e + suc i) (term_signal e v)) (λ v. later e (lines e + i) (lines e + suc i) (omega arith) (term_signal e v)) (u ∷ us) hs)),
      )

  sound_chain : (out : List ℕ) (c i y : ℕ) (ts : List Set) → is_name out ≡ true → c + (length ts - 1) < 2 ^ 64 → MayRead e (lines e + i) y
      → AllByRecursion (λ u. MayRead e (lines e + i) (term_signal e u)) ts → EachAt (IsSound e) (lines e + i) (chain k e out c i y ts)
  unfolding EachAt
  sound_chain out c i y [] named small l h = (sound e _ out (Buffer y) named (l, tt) (omega arith), tt)
  sound_chain out c i y (t ∷ ts) named small l h = let z : suc (length ts) - 1 ≡ length ts = omega arith in sound_links out c i y t ts named (rw z at small) l h

  -- what the chain of an output reads
  abbrev Reads : List Set → Type 0
  Reads ts = MayRead e (lines e + chain_place e) (start e ts) × AllByRecursion (λ t. MayRead e (lines e + chain_place e) (term_signal e t)) (rest ts)

  sound_chains : (c i : ℕ) (tss : List (List Set)) (outs : List (List ℕ)) → AllByRecursion (λ o. is_name o ≡ true) outs → c + all_inner tss < 2 ^ 64 → chain_place e ≤ i → AllByRecursion Reads tss
      → EachAt (IsSound e) (lines e + i) (chains k e c i tss outs)
  unfolding EachAt
  sound_chains c i [] outs named small l h = tt
  sound_chains c i (ts ∷ tss) [] named small l h = tt
  sound_chains c i (ts ∷ tss) (out ∷ outs) (here, named) small l (h, hs) =
      let z : lines e + i + length (chain k e out c i (start e ts) (rest ts)) ≡ lines e + suc (i + inner_gates ts) = omega (arith, length-chain k e out c i (start e ts) (rest ts)) in
      let on = later e (lines e + chain_place e) (lines e + i) (omega arith) in
      EachAt-join (IsSound e) (lines e + i) (chain k e out c i (start e ts) (rest ts)) _
      (sound_chain out c i (start e ts) (rest ts) here (omega (arith, small)) (on (start e ts) h.0)
      (each_weaker (λ t. MayRead e (lines e + chain_place e) (term_signal e t)) (λ t. MayRead e (lines e + i) (term_signal e t)) (λ t. on (term_signal e t)) (rest ts) h.1))
      (rw z (sound_chains (c + inner_gates ts) (suc (i + inner_gates ts)) tss outs named (omega (arith, small)) (omega arith) hs))

  sound_gates : (names : Names) → IsTerms e → e.polarity.n ≤ NET_LINES → cost e ≤ REDDY_TERMS → AllByRecursion (λ o. is_name o ≡ true) names.outputs → EachAt (IsSound e) (lines e) (gates k names e)
  unfolding gates
  sound_gates names terms few cheap named =
      let z1 : lines e + length (inverters k e) ≡ lines e + length (turned e) = ap (λ n. lines e + n) (length-inverters k e) in
      let z2 : lines e + length (turned e) + length (control_gates k e) ≡ lines e + and_place e = omega (arith, length-control_gates k e) in
      let z3 : lines e + and_place e + length (and_gates k e) ≡ lines e + chain_place e = omega (arith, length-and_gates k e, chain_after e) in
      EachAt-join (IsSound e) (lines e) (inverters k e) _ (sound_inverters 0 (turned e) (lines e) (omega (arith, few_turned e, few)) (each_member (MayRead e (lines e)) (turned e) (λ j m. let r = turned_parts e j m in (omega (arith, r.0), λ h. r.1))))
      (rw z1 (EachAt-join (IsSound e) _ (control_gates k e) _ (sound_control _ (omega arith))
      (rw z2 (EachAt-join (IsSound e) _ (and_gates k e) _ (sound_ands 0 (wide_terms e) _ (omega (arith, few_wide e, cheap)) few (omega arith) (all_terms e terms (wide_terms e) (λ t m. (wide_found e t m).1)))
      (rw z3 (sound_chains 0 (chain_place e) e.outs names.outputs named (omega (arith, few_of_all e, cheap)) (omega arith) (recursion_from_All Reads e.outs (λ o d l. reads o (get_or e.outs o d) (slice_get-get_or e.outs o d l)))))))))
    where
      reads : (o : ℕ) (ts : List Set) → slice_get e.outs o ≡ Some ts → Reads ts
      reads o ts there =
          let s = start_read e o ts there in
          (past e _ _ s.0 (omega (arith, s.1, chain_after e)), each_rest e (λ t. MayRead e (lines e + chain_place e) (term_signal e t)) (term_read e) ts (terms_at e terms o ts there))

-- ---- ports

-- the gate of a port
abbrev Within : Terms → ℕ → List (List Set) → ℕ → Type 0
Within e i tss s = (lines e + i ≤ s) × (s < lines e + (i + (all_inner tss + length tss)))

ends_apart : (e : Terms) (i : ℕ) (tss : List (List Set)) → AllByRecursion (Within e i tss) (ends e i tss) × Distinct (ends e i tss)
ends_apart e i [] = (tt, tt)
ends_apart e i (ts ∷ tss) =
    let j : ℕ = suc (i + inner_gates ts) in
    let r = ends_apart e j tss in (
      ((omega arith, omega arith), each_weaker (Within e j tss) (Within e i (ts ∷ tss)) (λ s h. (omega (arith, h.0), omega (arith, h.1))) (ends e j tss) r.0),
      (each_weaker (Within e j tss) (λ s. lines e + (i + inner_gates ts) ≢ s) (λ s h same. omega (arith, h.0, same)) (ends e j tss) r.0, r.1),
    )

links_end : (k : ℕ) (e : Terms) (out : List ℕ) (c i y : ℕ) (t : Set) (ts : List Set) (more : List Gate) (d : Gate) → (get_or (links k e out c i y t ts ++ more) (length ts) d).out ≡ out
links_end k e out c i y t [] more d = refl
links_end k e out c i y t (u ∷ us) more d = links_end k e out (suc c) (suc i) (lines e + i) u us more d

chain_end : (k : ℕ) (e : Terms) (out : List ℕ) (c i y : ℕ) (ts : List Set) (more : List Gate) (d : Gate) → (get_or (chain k e out c i y ts ++ more) (length ts - 1) d).out ≡ out
chain_end k e out c i y [] more d = refl
chain_end k e out c i y (t ∷ ts) more d = let z : suc (length ts) - 1 ≡ length ts = omega arith in rw z (links_end k e out c i y t ts more d)

-- the names of the ports, the chains standing after other gates
names_at : (k : ℕ) (e : Terms) (before : List Gate) (c i : ℕ) (tss : List (List Set)) (outs : List (List ℕ)) (d : Gate) → length tss ≡ length outs → length before ≡ i → map (λ s. (get_or (before ++ chains k e c i tss outs) (s - lines e) d).out) (ends e i tss) ≡ outs
names_at k e before c i [] [] d same at = refl
names_at k e before c i [] (out ∷ outs) d same at = absurd (omega (arith, same))
names_at k e before c i (ts ∷ tss) [] d same at = absurd (omega (arith, same))
names_at k e before c i (ts ∷ tss) (out ∷ outs) d same at =
    let gs : List Gate = chain k e out c i (start e ts) (rest ts) in
    let later_gates : List Gate = chains k e (c + inner_gates ts) (suc (i + inner_gates ts)) tss outs in
    let z : lines e + (i + inner_gates ts) - lines e ≡ length before + inner_gates ts = omega (arith, at) in
    let size : length (before ++ gs) ≡ suc (i + inner_gates ts) = omega (arith, length-append before gs, length-chain k e out c i (start e ts) (rest ts), at) in
    ap₂ (λ (name : List ℕ) names. name ∷ names) (rw (z, get_or-append-add before (gs ++ later_gates) (inner_gates ts) d) (chain_end k e out c i (start e ts) (rest ts) later_gates d))
    (subst (λ (all : List Gate). map (λ s. (get_or all (s - lines e) d).out) (ends e (suc (i + inner_gates ts)) tss) ≡ outs) (append_assoc before gs later_gates) (names_at k e (before ++ gs) (c + inner_gates ts) (suc (i + inner_gates ts)) tss outs d (omega (arith, same)) size))

-- ---- the network

pub inputs_are : (names : Names) (e : Terms) → CanBuild names e → length ((reddy_net names e).inputs) ≡ lines e
unfolding reddy_net
inputs_are names e can = omega (arith, length-append names.inputs (inner (lead names) (codes "c") ∷ []), can.fits.inputs)

pub length-outputs : (names : Names) (e : Terms) → length ((reddy_net names e).outputs) ≡ length e.outs
unfolding reddy_net
length-outputs names e = length-ends e (chain_place e) e.outs

pub port_names_are : (names : Names) (e : Terms) → CanBuild names e → HasPortNames (reddy_net names e) names.outputs
unfolding reddy_net
port_names_are names e can =
    rw (inputs_are names e can, front_chains (lead names) names e) (names_at (lead names) e (front (lead names) e) 0 (chain_place e) e.outs names.outputs _ can.fits.outputs (length-front (lead names) e))

-- the gates are gates, and read no input that no output uses
pub sound_net : (names : Names) (e : Terms) → CanBuild names e → EachAt (IsSound e) (lines e) (gates (lead names) names e)
sound_net names e can =
    let each : AllByRecursion (λ name. (is_name name ≡ true) × (length name ≤ SOURCE_NAME_BYTES)) (names.inputs ++ names.outputs) = recursion_from_All _ _ can.named.each in
    sound_gates e (lead names) (lead_few names can.named) names can.terms (omega (arith, can.fits.inputs, can.named.few_inputs)) can.cheap
    (each_weaker (λ name. (is_name name ≡ true) × (length name ≤ SOURCE_NAME_BYTES)) (λ name. is_name name ≡ true) (λ name h. h.0) names.outputs (each_front _ names.inputs names.outputs each).1)

pub valid : (names : Names) (e : Terms) → CanBuild names e → IsValid (reddy_net names e)
unfolding reddy_net
valid names e can =
    let k : ℕ = lead names in
    let named : IsNames names = can.named in
    let fits : Fits names e = can.fits in
    let each : AllByRecursion (λ name. (is_name name ≡ true) × (length name ≤ SOURCE_NAME_BYTES)) (names.inputs ++ names.outputs) = recursion_from_All _ _ named.each in
    let ins = each_weaker (λ name. (is_name name ≡ true) × (length name ≤ SOURCE_NAME_BYTES)) (λ name. is_name name ≡ true) (λ name h. h.0) names.inputs (each_front _ names.inputs names.outputs each).0 in
    let inputs : length (names.inputs ++ inner k (codes "c") ∷ []) ≡ lines e = inputs_are names e can in
    let all : length (gates k names e) ≡ chain_place e + (all_inner e.outs + length e.outs) = length-gates k names e fits in
    let small : e.polarity.n ≤ SOURCE_LINES = omega (arith, fits.inputs, named.few_inputs) in
    let outs : length (ends e (chain_place e) e.outs) ≡ length e.outs = length-ends e (chain_place e) e.outs in
    let ports = ends_apart e (chain_place e) e.outs in
    record {
      model_named = named.model_named;
      inputs_named = All-from_recursion _ _ (each-append _ names.inputs (inner k (codes "c") ∷ []) ins (letter_is_name k 99 (inner k (99 ∷ [])) refl (lead_few names named) (omega arith, omega arith), tt));
      some_input = omega arith;
      few_inputs = omega arith;
      names = names_apart k names e (lead_is_lead names).free named.distinct (omega arith) (omega (arith, few_wide e, can.cheap)) (omega (arith, few_of_all e, can.cheap));
      few_gates = omega (arith, few_wide e, (few_lines e).1, chain_after e, few_of_all e, can.cheap, fits.outputs, named.few_outputs);
      gates = λ i gate there. rw inputs (EachAt-get (IsSound e) (lines e) (gates k names e) (sound_net names e can) i gate there).0;
      some_output = omega (arith, fits.outputs, named.some_output);
      few_outputs = omega (arith, fits.outputs, named.few_outputs);
      ports = rw (inputs, all) (All-from_recursion _ _ (each_weaker (Within e (chain_place e) e.outs) (λ s. (lines e ≤ s) × (s < lines e + (chain_place e + (all_inner e.outs + length e.outs)))) (λ s h. (omega (arith, h.0), h.1)) _ ports.0));
      other_ports = AllPairs-from_Distinct _ ports.1;
    }

-- output o shows its function, complemented where the control is 1
pub shown : (names : Names) (e : Terms) → CanBuild names e → (x : Set) (o : ℕ) (ts : List Set) → slice_get e.outs o ≡ Some ts → has (out (reddy_net names e) None x) o ≡ differ (has x e.polarity.n) (value e.polarity ts x)
shown names e can = shows names e can.terms can.fits (valid names e can)
