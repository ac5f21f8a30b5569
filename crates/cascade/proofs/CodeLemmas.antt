-- Steps of the loops that build the network, and bounds that the builder keeps.
use Rattle.std.proofs.Common.{◌≡◌, ℕ, suc, ◌+◌, ◌<◌, ◌≤◌, true, List, [], ◌∷◌, ◌++◌, length, map, get_or, drop, sym, ap, ◌∙◌, arith, append_assoc, length-append, eqb, not}
use Rattle.std.specs.Prelude.{All, codes}
use Rattle.std.proofs.lemmas.List.{length-map, drop_more}
use Rattle.std.proofs.lemmas.List.Elements.{All-from_recursion, recursion_from_All}
use Rattle.std.proofs.lemmas.List.Sums.{get_or-le-sum_by}
use Rattle.ae_base.specs.declared.limits.TheConstants.{NET_LINES, PINS, REDDY_TERMS, SOURCE_NAME_BYTES}
use Rattle.ae_base.specs.Mask.{Set, empty, first, inside, members}
use Rattle.ae_base.proofs.Distinct.{each-filter, each_weaker}
use Rattle.ae_base.proofs.Elements.{each_member, length_filter_le}
use Rattle.ae_base.proofs.Members.{length-members}
use Rattle.ae_net.specs.declared.net.Gate.{Gate}
use Rattle.ae_net.specs.Lead.{lead}
use Rattle.ae_net.specs.Names.{Names, IsNames, inner}
use Rattle.ae_net.specs.Valid.{IsValid}
use Rattle.expansion.specs.Kept.{IsTerms}
use Rattle.expansion.specs.Terms.{Terms, cost}
use Rattle.cascade.specs.declared.parts.Chain.{Chain}
use Rattle.cascade.specs.declared.signals.Plan.{Plan}
use Rattle.cascade.specs.Plan.{IsPlan, IsChain, HasRoom}
use Rattle.cascade.specs.Reddy.{lines, turned, start, rest, inner_gates, wide_terms, and_place, chain_place, chain, chains, ends, gates, gates_for}
use Rattle.cascade.specs.Shows.{Fits, reddy_net}
use Rattle.cascade.proofs.Law.{IsTerm, all_terms, length-chain, wide_found}
use Rattle.cascade.proofs.Valid.{all_inner, few_lines, few_of_all, few_turned, few_wide, turned_parts, valid}

-- the gates of the elements that are left
pub gates_for_more : (gate : ℕ → ℕ → Gate) (c : ℕ) (xs : List ℕ) (i : ℕ) (now all : List Gate) → i < length xs → now ++ gates_for gate (c + i) (drop i xs) ≡ all → (now ++ gate (c + i) (get_or xs i 0) ∷ []) ++ gates_for gate (c + (i + 1)) (drop (i + 1) xs) ≡ all
gates_for_more gate c xs i now all l h = let z : c + (i + 1) ≡ suc (c + i) = omega arith in rw (append_assoc, z) (rw (drop_more xs i 0 l) at h)

pub few_pins : (n : ℕ) (t : Set) (f : ℕ → ℕ) → inside t (first n) ≡ true → n ≤ NET_LINES → length (map f (members t)) ≤ PINS
few_pins n t f below few = omega (arith, length-map (members t) f, length-members n t below)

pub rest_inside : (n : ℕ) (ts : List Set) → All (λ t. inside t (first n) ≡ true) ts → All (λ t. inside t (first n) ≡ true) (rest ts)
rest_inside n ts h = All-from_recursion _ (rest ts) (each-filter (λ t. inside t (first n) ≡ true) (λ t. not (eqb t empty)) ts (recursion_from_All _ ts h))

-- ---- the chains

-- an element that was read, and those after it
pub at_item : {X : Type 0} (xs : List X) (i : ℕ) (item : X) → i < length xs → item ≡ get_or xs i item → drop i xs ≡ item ∷ drop (i + 1) xs
at_item xs i item l is = drop_more xs i item l ∙ ap (λ x. x ∷ drop (i + 1) xs) (sym is)

pub has_room : (e : Terms) (outs : List (List Set)) (x i o place : ℕ) (ts : List Set) (name : List ℕ) (c : Chain) → outs ≡ e.outs → x + all_inner (drop o outs) ≡ all_inner outs → i ≡ place + (x + o) → o < length outs → length outs ≤ NET_LINES → place ≤ NET_LINES + 1 + REDDY_TERMS → cost e ≤ REDDY_TERMS
    → ts ≡ get_or outs o ts → IsChain c e name x ts → HasRoom c i
has_room e outs x i o place ts name c outs_is inner places l few low cheap ts_is made =
    let all : all_inner outs ≤ cost e = omega (arith, few_of_all e, ap all_inner outs_is) in
    let at : length ts ≤ cost e = rw (sym ts_is, outs_is) at (get_or-le-sum_by length outs o ts l) in
    let terms : length c.terms.items ≤ length ts = omega (arith, ap length made.terms, length_filter_le (λ t. not (eqb t empty)) ts) in
    record { inner = omega (arith, made.inner); gates = omega arith }

-- the gates so far, once the chain c of the o-th output is made, and the chains that are left
pub chains_more : (k : ℕ) (e : Terms) (x o : ℕ) (tss : List (List Set)) (outs : List (List ℕ)) (ts : List Set) (out : List ℕ) (c : Chain) (now new all : List Gate) → o < length tss → o < length outs → ts ≡ get_or tss o ts → out ≡ get_or outs o out → IsChain c e out x ts
    → new ≡ now ++ chain k e c.out.now c.inner (length now) c.start c.terms.items → now ++ chains k e x (length now) (drop o tss) (drop o outs) ≡ all
    → (length new ≡ suc (length now + inner_gates ts)) × (new ++ chains k e (x + inner_gates ts) (length new) (drop (o + 1) tss) (drop (o + 1) outs) ≡ all)
chains_more k e x o tss outs ts out c now new all l m ts_is out_is made new_is h =
    let is = rw (made.out, made.inner, made.start, made.terms) at new_is in
    let links : List Gate = chain k e out x (length now) (start e ts) (rest ts) in
    let size : length new ≡ suc (length now + inner_gates ts) = omega (arith, ap length is, length-append now links, length-chain k e out x (length now) (start e ts) (rest ts)) in
    (size, rw (size, is, append_assoc now links _) (rw (at_item tss o ts l ts_is, at_item outs o out m out_is) at h))

-- the ends so far, and those of the chains that are left
pub ends_more : (e : Terms) (o i j end : ℕ) (tss : List (List Set)) (ts : List Set) (now all : List ℕ) → o < length tss → ts ≡ get_or tss o ts → j ≡ suc (i + inner_gates ts) → suc end ≡ lines e + j → now ++ ends e i (drop o tss) ≡ all
    → (now ++ end ∷ []) ++ ends e j (drop (o + 1) tss) ≡ all
ends_more e o i j end tss ts now all l ts_is j_is last h = let end_is : end ≡ lines e + (i + inner_gates ts) = omega arith in rw (append_assoc, end_is, j_is) (rw (at_item tss o ts l ts_is) at h)

pub inner_more : (o : ℕ) (tss : List (List Set)) (ts : List Set) → o < length tss → ts ≡ get_or tss o ts → all_inner (drop o tss) ≡ inner_gates ts + all_inner (drop (o + 1) tss)
inner_more o tss ts l ts_is = ap all_inner (at_item tss o ts l ts_is)

-- ---- the network that the builder puts together

pub is_plan : (plan : Plan) → let e = plan.expansion.now in IsTerms e → cost e ≤ REDDY_TERMS → plan.lead ≤ SOURCE_NAME_BYTES + 1 → plan.turned.items ≡ turned e → plan.wide.items ≡ wide_terms e → plan.ands ≡ and_place e → IsPlan plan
is_plan plan terms cheap short turned_is wide_is ands_is = let e = plan.expansion.now in record {
  terms = terms;
  short = short;
  few_inputs = terms.signs.0;
  turned = turned_is;
  each_turned = rw turned_is (All-from_recursion (λ j. j ≤ NET_LINES) (turned e) (each_member (λ j. j ≤ NET_LINES) (turned e) (λ j m. omega (arith, (turned_parts e j m).0, terms.signs.0))));
  few_turned = omega (arith, few_turned e, ap length turned_is, terms.signs.0);
  wide = wide_is;
  each_wide = rw wide_is (All-from_recursion (λ t. inside t (first e.polarity.n) ≡ true) (wide_terms e) (each_weaker (IsTerm e) (λ t. inside t (first e.polarity.n) ≡ true) (λ t h. h.1) (wide_terms e) (all_terms e terms (wide_terms e) (λ t m. (wide_found e t m).1))));
  few_wide = omega (arith, few_wide e, ap length wide_is);
  ands = ands_is;
  low = omega (arith, ands_is, (few_lines e).1, terms.signs.0);
}

pub net_valid : (names : Names) (e : Terms) (k : ℕ) (model : List ℕ) (inputs : List (List ℕ)) (outputs : List ℕ) (made : List Gate) → IsNames names → IsTerms e → Fits names e → cost e ≤ REDDY_TERMS
    → k ≡ lead names → model ≡ names.model → inputs ≡ names.inputs ++ inner k (codes "c") ∷ [] → outputs ≡ ends e (chain_place e) e.outs → made ≡ gates k names e
    → IsValid (record { model = model; inputs = inputs; outputs = outputs; gates = made })
unfolding reddy_net
net_valid names e k model inputs outputs made named terms fits cheap k_is model_is inputs_is outputs_is made_is =
    rw (made_is, outputs_is, inputs_is, model_is, k_is) (valid names e (record { named = named; terms = terms; fits = fits; cheap = cheap }))
