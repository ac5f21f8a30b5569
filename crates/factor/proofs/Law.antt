-- The number of cubes of all outputs.
use Rattle.std.proofs.Common.{◌≡◌, ◌≤◌, List, [], ◌∷◌, length, refl, arith, ℕ, zero, suc, ◌+◌, ◌-◌, ◌*◌, ◌<◌, Bool, true, ◌&&◌, ◌||◌, ◌++◌, get_or, sym, ap, ap₂, ◌∙◌, subst, length-append, cond, inl, inr, append-nil, map, append_assoc}
use Rattle.std.specs.Prelude.{sum_by, Some, None, All, slice_get, slice_index, filter}
use Rattle.std.specs.List.{AllZip, AllByRecursion, range_with_len}
use Rattle.std.proofs.lemmas.List.Sums.{sum_by-cons}
use Rattle.std.proofs.lemmas.Bool.{lt-ltb, cases_Bool}
use Rattle.std.proofs.lemmas.List.{length-map, get_or-append-add, map-id}
use Rattle.std.proofs.lemmas.List.Elements.{All-from_recursion, recursion_from_All}
use Rattle.std.proofs.lemmas.List.FromFn.{length-range_with_len, filter_of_map_range_with_len_more}
use Rattle.std.proofs.lemmas.Option.{slice_get_within}
use Rattle.ae_base.specs.Cube.{Product, IsOver, distance}
use Rattle.ae_base.specs.Mask.{Set, has, xor}
use Rattle.ae_base.specs.Name.{is_name}
use Rattle.ae_base.specs.declared.limits.TheConstants.{FACTORED_CUBES, SOURCE_NAME_BYTES, SOURCE_LINES}
use Rattle.ae_base.proofs.Distinct.{Distinct, Distinct-from_AllPairs, AllPairs-from_Distinct, each_front, each_weaker}
use Rattle.ae_base.proofs.Elements.{length_filter_le, range_below, All-get}
use Rattle.ae_base.proofs.Members.{len-none}
use Rattle.ae_base.proofs.Sets.{has-either, has-xor, has-where_below}
use Rattle.ae_base.proofs.Truth.{differ-same}
use Rattle.ae_base.proofs.EachAt.{EachAt, EachAt-get, EachAt-split, EachAt-join}
use Rattle.ae_net.specs.declared.net.Gate.{Gate}
use Rattle.ae_net.specs.GateNames.{NamesDiffer}
use Rattle.ae_net.specs.Implements.{port_names}
use Rattle.ae_net.specs.Lead.{lead}
use Rattle.ae_net.specs.Names.{Names, IsNames}
use Rattle.ae_net.specs.Network.{Network}
use Rattle.ae_net.specs.Out.{run}
use Rattle.ae_net.specs.Run.{value_of, IsRun, ports_of}
use Rattle.ae_net.specs.Valid.{IsGate, IsValid}
use Rattle.ae_net.specs.Follows.{Fits as FitsGate, Follows}
use Rattle.ae_net.proofs.Follow.{Follows-run}
use Rattle.ae_net.proofs.LeadLemmas.{lead_is_lead, lead_few}
use Rattle.ae_net.proofs.Runs.{IsRun-run}
use Rattle.esop.specs.Esop.{Cubes, esop_value}
use Rattle.esop.specs.Kept.{IsCubes}
use Rattle.esop.specs.Settled.{IsSettled, AreSettled}
use Rattle.ae_net.specs.declared.gates.Cell.{Cell}
use Rattle.factor.specs.declared.parts.Wires.{Wires}
use Rattle.factor.specs.Cells.{output_cells}
use Rattle.factor.specs.Factored.{is_turned, wires, inverters, named, output_gates, ends, network_of, AreSums, HasFactoredForm}
use Rattle.factor.specs.Plan.{most_gates, IsPlan, sums_of}
use Rattle.factor.specs.Shows.{Fits, cube_count, CanBuild, AreValues, ShowsEsop, HasNames, exor_count}
use Rattle.factor.specs.Sums.{Summands, IsSum, sum_value}
use Rattle.factor.proofs.Values.{port_shows, literals_show}
use Rattle.factor.proofs.Meaning.{nodes_bound, sum_means, value-esop, one_sum}
use Rattle.factor.proofs.Sizes.{all_exors, output_some}
use Rattle.factor.proofs.Valid.{length-named, gate_names, first_gate, AreGates-inverters, AreGates-outputs, length-outputs, ends_apart, length-ends, ready_all, within_all}
use Rattle.factor.specs.declared.outputs.Plan.{Plan}
use Rattle.factor.specs.Seen.{seen, IsWithin}
use Rattle.std.proofs.lemmas.Slice.Zip.{AllZip-long}

pub same_count : {A B : Type 0} (tss : List (List A)) (css : List (List B)) → AllZip (λ (ts : List A) (cs : List B). length cs ≡ length ts) tss css → sum_by (λ (cs : List B). length cs) css ≡ sum_by (λ (ts : List A). length ts) tss
same_count [] [] h = refl
same_count [] (cs ∷ css) h = absurd h
same_count (ts ∷ tss) [] h = absurd h
same_count {A} {B} (ts ∷ tss) (cs ∷ css) (h, hs) = omega (arith, h, same_count tss css hs, sum_by-cons (λ (ds : List B). length ds) cs css, sum_by-cons (λ (us : List A). length us) ts tss)

pub fewer_count : {A : Type 0} (css dss : List (List A)) → AllZip (λ (cs ds : List A). length ds ≤ length cs) css dss → sum_by (λ (ds : List A). length ds) dss ≤ sum_by (λ (cs : List A). length cs) css
fewer_count [] [] h = omega arith
fewer_count [] (ds ∷ dss) h = absurd h
fewer_count (cs ∷ css) [] h = absurd h
fewer_count {A} (cs ∷ css) (ds ∷ dss) (h, hs) = omega (arith, h, fewer_count css dss hs, sum_by-cons (λ (es : List A). length es) cs css, sum_by-cons (λ (es : List A). length es) ds dss)

-- ---- The factored network is valid, shows the values of its ESOP, and has the names of the source.

-- ---- settled lists have no repeats

no_distance : (c : Product) → distance c c ≡ 0
unfolding distance
no_distance c = len-none _ (λ j. has-either (xor c.pos c.pos) (xor c.neg c.neg) j ∙ ap₂ (λ a b. a || b) (has-xor c.pos c.pos j ∙ differ-same (has c.pos j)) (has-xor c.neg c.neg j ∙ differ-same (has c.neg j)))

pub settled_distinct : (cs : List Product) → IsSettled cs → Distinct cs
settled_distinct cs settled =
    Distinct-from_AllPairs cs (λ i j d l k same. let far : 2 ≤ distance (get_or cs i d) (get_or cs j d) = settled.far i j d l k in
    absurd (omega (arith, far, ap (distance (get_or cs i d)) (sym same), no_distance (get_or cs i d))))

-- ---- sizes

pub length_sums : (css : List (List Product)) (sums : List Summands) → AreSums css sums → length sums ≡ length css
length_sums css sums are = AllZip-long IsSum css sums are

most_bound : (css : List (List Product)) (sums : List Summands) → AreSums css sums → AllByRecursion Distinct css → most_gates sums ≤ 6 * sum_by length css + length css
most_bound [] [] are distinct = omega arith
most_bound [] (s ∷ ss) are distinct = absurd are
most_bound (cs ∷ css) [] are distinct = absurd are
most_bound (cs ∷ css) (s ∷ ss) (is, are) (d, ds) = omega (arith, nodes_bound cs s is d, most_bound css ss are ds, sum_by-cons (λ (ds : List Product). length ds) cs css)

pub few_turned : (e : Cubes) → length (wires e).turned ≤ e.n
few_turned e = omega (arith, length_filter_le (is_turned e.outs) (range_with_len 0 e.n), length-range_with_len 0 e.n)

pub length-inverters : (k : ℕ) (js : List ℕ) → length (inverters k js) ≡ length js
length-inverters k js = length-map js _

pub over_all : (e : Cubes) → IsCubes e → AllByRecursion (All (IsOver e.n)) e.outs
over_all e cubes = recursion_from_All (All (IsOver e.n)) e.outs cubes.below

distinct_all : (e : Cubes) → AreSettled e → AllByRecursion Distinct e.outs
distinct_all e settled = each_weaker IsSettled Distinct settled_distinct e.outs (recursion_from_All IsSettled e.outs settled)

pub most_of_all : (names : Names) (e : Cubes) (sums : List Summands) → CanBuild names e → AreSums e.outs sums → most_gates sums ≤ 6 * FACTORED_CUBES + SOURCE_LINES
most_of_all names e sums can are = omega (arith, most_bound e.outs sums are (distinct_all e can.settled), can.few, can.fits.outputs, can.named.few_outputs)

-- ---- valid

pub valid : (names : Names) (e : Cubes) (sums : List Summands) → NamesDiffer → CanBuild names e → AreSums e.outs sums → IsValid (network_of (lead names) names (wires e) sums)
unfolding network_of
valid names e sums differ can are =
    let k : ℕ = lead names in
    let w : Wires = wires e in
    let named : IsNames names = can.named in
    let short : k ≤ SOURCE_NAME_BYTES + 1 = lead_few names named in
    let each : AllByRecursion (λ name. (is_name name ≡ true) × (length name ≤ SOURCE_NAME_BYTES)) (names.inputs ++ names.outputs) = recursion_from_All _ _ named.each in
    let ins_outs = each_front (λ name. is_name name ≡ true) names.inputs names.outputs (each_weaker (λ name. (is_name name ≡ true) × (length name ≤ SOURCE_NAME_BYTES)) (λ name. is_name name ≡ true) (λ name h. h.0) (names.inputs ++ names.outputs) each) in
    let inputs : length names.inputs ≡ e.n = sym can.fits.inputs in
    let small : e.n ≤ SOURCE_LINES = omega (arith, can.fits.inputs, named.few_inputs) in
    let turned = few_turned e in
    let most = most_of_all names e sums can are in
    let s : ℕ = first_gate w in
    let outs : List Gate = output_gates k w s 0 sums names.outputs in
    let invs : List Gate = inverters k w.turned in
    let len : length (invs ++ outs) ≡ length w.turned + length outs = length-append invs outs ∙ ap (λ n. n + length outs) (length-inverters k w.turned) in
    let few = length-outputs k w s 0 sums names.outputs in
    let same : length sums ≡ length names.outputs = length_sums e.outs sums are ∙ can.fits.outputs in
    let z : e.n + length invs ≡ s = ap (λ n. e.n + n) (length-inverters k w.turned) in
    let gates : EachAt IsGate e.n (invs ++ outs) =
    EachAt-join IsGate e.n invs outs
    (AreGates-inverters k e.n w.turned short (omega (arith, small, turned)) (range_below (is_turned e.outs) 0 e.n e.n (omega arith)))
    (subst (λ p. EachAt IsGate p outs) (sym z)
    (AreGates-outputs k w s 0 sums names.outputs short (omega (arith, small)) (omega arith) (omega (arith, most)) ins_outs.1 (ready_all e e.outs sums are (over_all e can.cubes) (λ q m. m)) (within_all e.n e.outs sums are (over_all e can.cubes)))) in
    let ports : length (ends w s sums) ≡ length sums = length-ends w s sums in
    let ends_are = ends_apart k w s 0 sums names.outputs same in
    record {
      model_named = named.model_named;
      inputs_named = All-from_recursion _ names.inputs ins_outs.0;
      some_input = named.some_input;
      few_inputs = omega (arith, named.few_inputs);
      names = differ.names k names.inputs names.outputs _ (lead_is_lead names).free named.distinct (gate_names k e.n s (is_turned e.outs) w sums names.outputs differ (omega (arith, small)) (omega (arith, most)));
      few_gates = omega (arith, len, few, most, turned, small);
      gates = λ i gate there. subst (λ m. IsGate (m + i) gate) (sym inputs) (EachAt-get IsGate e.n (invs ++ outs) gates i gate there);
      some_output = omega (arith, ports, same, named.some_output);
      few_outputs = omega (arith, ports, same, named.few_outputs);
      ports = All-from_recursion _ (ends w s sums) (each_weaker (λ p. (s ≤ p) × (p < s + length outs)) (λ p. (length names.inputs ≤ p) × (p < length names.inputs + length (invs ++ outs))) (λ p h. (omega (arith, h.0, inputs), omega (arith, h.1, inputs, len))) (ends w s sums) ends_are.0);
      other_ports = AllPairs-from_Distinct _ ends_are.1;
    }

-- ---- values

pub record At (cs : List Product) (sums : List Summands) (o : ℕ) : Type 0 where
  pub sum : Summands
  pub there : slice_get sums o ≡ Some sum
  pub is : IsSum cs sum

sum_at : (css : List (List Product)) (sums : List Summands) → AreSums css sums → (o : ℕ) (cs : List Product) → slice_get css o ≡ Some cs → At cs sums o
sum_at [] sums are o cs there = cc
sum_at (ds ∷ dss) [] are o cs there = absurd are
sum_at (ds ∷ dss) (s ∷ ss) (is, are) zero cs there = let e : ds ≡ cs = cc in record { sum = s; there = refl; is = subst (λ c. IsSum c s) e is }
sum_at (ds ∷ dss) (s ∷ ss) (is, are) (suc o) cs there = let r = sum_at dss ss are o cs there in record { sum = r.sum; there = r.there; is = r.is }

port_value : (names : Names) (e : Cubes) (sums : List Summands) → CanBuild names e → AreSums e.outs sums → (x : Set) (v : List Bool) → IsRun (network_of (lead names) names (wires e) sums) None x v → (o : ℕ) (cs : List Product) → slice_get e.outs o ≡ Some cs
    → value_of v (slice_index (ends (wires e) (first_gate (wires e)) sums) o) ≡ esop_value cs x
unfolding network_of
port_value names e sums can are x v is o cs there =
    let k : ℕ = lead names in
    let w : Wires = wires e in
    let s : ℕ = first_gate w in
    let outs : List Gate = output_gates k w s 0 sums names.outputs in
    let inputs : length names.inputs ≡ e.n = sym can.fits.inputs in
    let all : Follows None v e.n 0 (inverters k w.turned ++ outs) = subst (λ m. Follows None v m 0 (inverters k w.turned ++ outs)) inputs (Follows-run (network_of k names w sums) None x v is) in
    let both = EachAt-split (FitsGate None v e.n) 0 (inverters k w.turned) outs all in
    let z : 0 + length (inverters k w.turned) ≡ length w.turned = omega (arith, length-inverters k w.turned) in
    let show = literals_show k w v x (λ j l. is.inputs j (omega (arith, l, inputs))) both.0 in
    let at = sum_at e.outs sums are o cs there in
    port_shows k w v x (length w.turned) 0 sums names.outputs (subst (λ p. EachAt (FitsGate None v e.n) p outs) z both.1) (length_sums e.outs sums are ∙ can.fits.outputs) show (ready_all e e.outs sums are (over_all e can.cubes) (λ q m. m)) o at.sum at.there
    ∙ sum_means cs at.sum at.is (All-get Distinct e.outs o cs (All-from_recursion Distinct e.outs (distinct_all e can.settled)) there) x
    ∙ value-esop cs x

at_ports : (names : Names) (e : Cubes) (sums : List Summands) → CanBuild names e → AreSums e.outs sums → (x : Set) (v : List Bool) → IsRun (network_of (lead names) names (wires e) sums) None x v → AreValues e x (ports_of (network_of (lead names) names (wires e) sums) None v)
unfolding network_of
at_ports names e sums can are x v is o cs there =
    let ps : List ℕ = ends (wires e) (first_gate (wires e)) sums in
    let l : o < length ps = omega (arith, slice_get_within e.outs o cs there, length-ends (wires e) (first_gate (wires e)) sums, length_sums e.outs sums are) in
    has-where_below (length ps) (λ p. value_of v (slice_index ps p)) o
    ∙ ap (λ b. b && value_of v (slice_index ps o)) (lt-ltb o (length ps) l)
    ∙ port_value names e sums can are x v is o cs there

pub shows : (names : Names) (e : Cubes) (sums : List Summands) → NamesDiffer → CanBuild names e → AreSums e.outs sums → ShowsEsop (network_of (lead names) names (wires e) sums) e
shows names e sums differ can are x =
    let n : Network = network_of (lead names) names (wires e) sums in
    let is : IsRun n None x (run n None x) = IsRun-run n None x (valid names e sums differ can are) in
    (ports_of n None (run n None x), record { run = run n None x; is_run = is; ports = refl }, at_ports names e sums can are x (run n None x) is)

-- ---- EXOR gates

pub few_exors : (names : Names) (e : Cubes) (sums : List Summands) → AreSums e.outs sums → exor_count (network_of (lead names) names (wires e) sums) ≤ cube_count e
unfolding network_of exor_count
few_exors names e sums are = all_exors (lead names) (wires e) (first_gate (wires e)) e.outs sums names.outputs (wires e).turned are

-- ---- names of ports

named_end : (k c : ℕ) (out : List ℕ) (cells : List Cell) (more : List Gate) (d : Gate) → 0 < length cells → (get_or (named k c out cells ++ more) (length cells - 1) d).out ≡ out
named_end k c out [] more d l = absurd (omega (arith, l))
named_end k c out (cell ∷ []) more d l = refl
named_end k c out (cell ∷ next ∷ cells) more d l =
    let z : length (cell ∷ next ∷ cells) - 1 ≡ suc (length (next ∷ cells) - 1) = omega arith in
    rw z (named_end k (suc c) out (next ∷ cells) more d (omega arith))

-- the names of the ports, the outputs' gates standing after others
names_at : (k : ℕ) (w : Wires) (m : ℕ) (start : List Gate) (c : ℕ) (sums : List Summands) (outs : List (List ℕ)) (d : Gate) → length sums ≡ length outs
    → map (λ s. (get_or (start ++ output_gates k w (m + length start) c sums outs) (s - m) d).out) (ends w (m + length start) sums) ≡ outs
names_at k w m start c [] [] d same = refl
names_at k w m start c [] (out ∷ outs) d same = absurd (omega (arith, same))
names_at k w m start c (sum ∷ sums) [] d same = absurd (omega (arith, same))
names_at k w m start c (sum ∷ sums) (out ∷ outs) d same =
    let s : ℕ = m + length start in
    let cells = output_cells w s sum in
    let gs : List Gate = named k c out cells in
    let more : List Gate = output_gates k w (s + length cells) (c + (length cells - 1)) sums outs in
    let z : s + (length cells - 1) - m ≡ length start + (length cells - 1) = omega arith in
    let y : m + length (start ++ gs) ≡ s + length cells = omega (arith, length-append start gs, length-named k c out cells) in
    ap₂ (λ (name : List ℕ) names. name ∷ names) (rw (z, get_or-append-add start (gs ++ more) (length cells - 1) d) (named_end k c out cells more d (output_some w s sum)))
    (subst (λ (all : List Gate). map (λ s. (get_or all (s - m) d).out) (ends w (s + length cells) sums) ≡ outs) (append_assoc start gs more)
    (subst (λ p. map (λ s. (get_or ((start ++ gs) ++ output_gates k w p (c + (length cells - 1)) sums outs) (s - m) d).out) (ends w p sums) ≡ outs) y (names_at k w m (start ++ gs) (c + (length cells - 1)) sums outs d (omega (arith, same)))))

pub port_names_are : (names : Names) (e : Cubes) (sums : List Summands) → Fits names e → AreSums e.outs sums → port_names (network_of (lead names) names (wires e) sums) ≡ names.outputs
unfolding network_of
port_names_are names e sums fits are =
    let k : ℕ = lead names in
    let turned : List ℕ = (wires e).turned in
    rw (sym fits.inputs, sym (length-inverters k turned)) (names_at k (wires e) e.n (inverters k turned) 0 sums names.outputs _ (length_sums e.outs sums are ∙ fits.outputs))

pub named_net : (names : Names) (e : Cubes) (sums : List Summands) → Fits names e → AreSums e.outs sums → HasNames names (network_of (lead names) names (wires e) sums)
unfolding network_of
named_net names e sums fits are = record { model = refl; inputs = refl; ports = port_names_are names e sums fits are }

-- ---- one network

one_each : (css : List (List Product)) (sums more : List Summands) → AreSums css sums → AreSums css more → sums ≡ more
one_each [] [] [] a b = refl
one_each [] [] (r ∷ rs) a b = absurd b
one_each [] (s ∷ ss) more a b = absurd a
one_each (cs ∷ css) [] more a b = absurd a
one_each (cs ∷ css) (s ∷ ss) [] a b = absurd b
one_each (cs ∷ css) (s ∷ ss) (r ∷ rs) (a, az) (b, bs) = ap₂ (λ (t : Summands) (ts : List Summands). t ∷ ts) (one_sum cs s r a b) (one_each css ss rs az bs)

pub one_net : (names : Names) (e : Cubes) (n m : Network) → HasFactoredForm names e n → HasFactoredForm names e m → n ≡ m
one_net names e n m a b = a.is ∙ ap (network_of (lead names) names (wires e)) (one_each e.outs a.sums b.sums a.are_sums b.are_sums) ∙ sym b.is

pub value_of_sum : (cs : List Product) (s : Summands) (x : Set) → IsSettled cs → IsSum cs s → sum_value s x ≡ esop_value cs x
value_of_sum cs s x settled is = sum_means cs s is (settled_distinct cs settled) x ∙ value-esop cs x

-- ---- What the builder works out before it makes the gates, and the network that it puts together.

-- ---- the inputs that have an inverter

pub one_more_turned : (p : ℕ → Bool) (n : ℕ) → filter p (range_with_len 0 (n + 1)) ≡ cond (p n) (filter p (range_with_len 0 n) ++ n ∷ []) (filter p (range_with_len 0 n))
one_more_turned p n =
    let more : filter p (range_with_len 0 (n + 1)) ≡ filter p (range_with_len 0 n) ++ cond (p n) (n ∷ []) [] = simp map-id at (filter_of_map_range_with_len_more p (λ j. j) 0 n n (omega arith)) in
    more ∙ elim (cases_Bool (p n)) [ inl k ↦ rw k refl | inr k ↦ rw k (append-nil _) ]

-- ---- sums

pub sums_push : (css : List (List Product)) (sums : List Summands) (cs : List Product) (s : Summands) → AreSums css sums → IsSum cs s → AreSums (css ++ cs ∷ []) (sums ++ s ∷ [])
sums_push [] [] cs s are is = (is, tt)
sums_push [] (r ∷ rs) cs s are is = absurd are
sums_push (ds ∷ dss) [] cs s are is = absurd are
sums_push (ds ∷ dss) (r ∷ rs) cs s (h, hs) is = (h, sums_push dss rs cs s hs is)

-- ---- the plan

pub is_plan : (plan : Plan) (names : Names) (e : Cubes) → CanBuild names e → plan.lead ≡ lead names → plan.wires ≡ wires e → AreSums e.outs (sums_of plan) → IsPlan plan
is_plan plan names e can lead_is wires_is are =
    let small : e.n ≤ SOURCE_LINES = omega (arith, can.fits.inputs, can.named.few_inputs) in
    let inputs : plan.wires.inputs ≡ e.n = ap (λ (w : Wires). w.inputs) wires_is in
    let turned : length plan.wires.turned ≤ e.n = omega (arith, ap (λ (w : Wires). length w.turned) wires_is, few_turned e) in
    record {
      short = omega (arith, lead_is, lead_few names can.named);
      wires = record { few_inputs = omega (arith, inputs, small); few_turned = omega (arith, turned, small) };
      within = subst (λ n. AllByRecursion (IsWithin n) (sums_of plan)) (sym inputs) (within_all e.n e.outs (sums_of plan) are (over_all e can.cubes));
      few = omega (arith, turned, small, most_of_all names e (sums_of plan) can are);
    }

pub as_many : (plan : Plan) (names : Names) (e : Cubes) → CanBuild names e → AreSums e.outs (sums_of plan) → length plan.sums.items ≡ length names.outputs
as_many plan names e can are = omega (arith, length-map plan.sums.items seen, length_sums e.outs (sums_of plan) are, can.fits.outputs)

-- ---- the network

pub net_is : (k : ℕ) (names : Names) (w : Wires) (sums : List Summands) (model : List ℕ) (inputs : List (List ℕ)) (outputs : List ℕ) (start gates : List Gate)
    → model ≡ names.model → inputs ≡ names.inputs → start ≡ inverters k w.turned → gates ≡ start ++ output_gates k w (w.inputs + length start) 0 sums names.outputs → outputs ≡ ends w (w.inputs + length start) sums
    → record { model = model; inputs = inputs; outputs = outputs; gates = gates } ≡ network_of k names w sums
unfolding network_of
net_is k names w sums model inputs outputs start gates model_is inputs_is start_is gates_is outputs_is =
    let z : length start ≡ length w.turned = ap length start_is ∙ length-inverters k w.turned in
    let g : gates ≡ inverters k w.turned ++ output_gates k w (w.inputs + length w.turned) 0 sums names.outputs =
    gates_is ∙ ap₂ (λ (gs : List Gate) n. gs ++ output_gates k w (w.inputs + n) 0 sums names.outputs) start_is z in
    let o : outputs ≡ ends w (w.inputs + length w.turned) sums = outputs_is ∙ ap (λ n. ends w (w.inputs + n) sums) z in
    rw (g, o, model_is, inputs_is) refl

pub net_valid : (plan : Plan) (names : Names) (e : Cubes) (net : Network) → NamesDiffer → CanBuild names e → plan.lead ≡ lead names → plan.wires ≡ wires e → AreSums e.outs (sums_of plan) → net ≡ network_of plan.lead names plan.wires (sums_of plan) → IsValid net
net_valid plan names e net differ can lead_is wires_is are is =
    subst IsValid (sym (is ∙ ap₂ (λ k w. network_of k names w (sums_of plan)) lead_is wires_is)) (valid names e (sums_of plan) differ can are)
