-- The literals of the sums have signals, and their products have no input twice.
use Rattle.std.proofs.Common.{◌≡◌, ◌≢◌, ℕ, ◌<◌, Bool, true, false, inl, inr, List, [], ◌∷◌, refl, sym, ap, ◌∙◌, arith, eqb, suc, ◌+◌, ◌*◌, ◌-◌, ◌≤◌, ◌^◌, cond, ◌++◌, length, map, get_or, drop, ap₂, subst, eq-eqb, ne_eqb, length-append, length-drop, append_assoc, append-nil}
use Rattle.std.specs.Prelude.{All, codes, filter, sum, slice_index}
use Rattle.std.specs.List.{list_any, AllByRecursion, range_with_len, position_or_len}
use Rattle.std.proofs.lemmas.Bool.{cases_Bool, false≢true, or_cases, or_left, or_right, cases_eq, lt-ltb, false_from_ne_true}
use Rattle.std.proofs.lemmas.List.Elements.{recursion_from_All, All-from_recursion}
use Rattle.ae_base.specs.Mask.{has, either, first, inside, members}
use Rattle.ae_base.specs.Cube.{Product, IsOver, IsProduct, whole}
use Rattle.ae_base.proofs.Elements.{any_kept, any_range, range_below, each_member}
use Rattle.esop.specs.Esop.{Cubes}
use Rattle.factor.specs.declared.parts.Wires.{Wires}
use Rattle.factor.specs.declared.literals.Literal.{Literal}
use Rattle.factor.specs.Factored.{is_turned, wires, AreSums, inverters, named, output_gates, ends}
use Rattle.factor.specs.Literals.{stands, is_empty, with_literal, holding, others}
use Rattle.factor.specs.Seen.{EachLiteral, IsWithin}
use Rattle.factor.specs.Sums.{Summands, IsSum, plain_sum, joined, has_constant, nodes}
use Rattle.factor.specs.Sums.Summands.{end, literals, factored}
use Rattle.factor.specs.Sums.IsSum.{flat, taken}
use Rattle.factor.proofs.Taken.{some_stands, joined_by, lit, stands-with, stands-one, same_is, each_literal, kept}
use Rattle.factor.proofs.Meaning.{over_held, over_others, each_avoids, none_stands, each_product, stands_below}
use Rattle.std.specs.Fmt.{decimal}
use Rattle.std.proofs.lemmas.List.{length-map, map-append, drop_more}
use Rattle.std.proofs.lemmas.List.Sums.{sum_by-cons}
use Rattle.ae_base.specs.declared.limits.TheConstants.{SOURCE_LINES, PINS, SOURCE_NAME_BYTES}
use Rattle.ae_base.proofs.Distinct.{each-append, each_weaker, AllPairs-from_Distinct, Distinct-filter, Distinct-range, Distinct, each-map}
use Rattle.ae_base.proofs.Members.{length-members, members-has}
use Rattle.ae_base.proofs.Sets.{has-inside, has-either, has-first}
use Rattle.ae_net.specs.declared.net.Gate.{Gate}
use Rattle.ae_net.specs.GateNames.{Group, names_in, numbered, names_to_outputs, AreGateNames, NamesDiffer}
use Rattle.ae_net.specs.Lead.{IsLetter}
use Rattle.ae_net.specs.Names.{inner}
use Rattle.ae_net.specs.Valid.{IsDistinct, IsGate}
use Rattle.ae_net.specs.declared.gates.Cell.{Cell}
use Rattle.ae_net.specs.declared.gates.Cell.TheVariants.{Inverter, And}
use Rattle.factor.specs.declared.parts.Factor.{Factor}
use Rattle.ae_net.specs.Gates.{pins_of, gate_of}
use Rattle.factor.specs.Cells.{Part, literal_signal, literal_signals, product_of, are_excluded, join, joins, chain_of, closing, turned_by, parts, sum_part, output_cells, Parts, before, last_of}
use Rattle.factor.specs.Plan.{most_gates}
use Rattle.factor.proofs.Sizes.{literals_part, factored_part, parts-literals, parts-factored, parts-end, sum_part-is, closing_some, output_bound, output_some, length-joins}
use Rattle.ae_base.specs.Name.{is_name}
use Rattle.ae_base.proofs.EachAt.{EachAt, EachAt-join}
use Rattle.ae_net.proofs.GatesValid.{IsGate-cell, IsGate-inverter}
use Rattle.ae_net.proofs.InnerAreNames.{numbered_is_name}

-- ---- products

-- it holds of the direct factors of each summand of the sum and of its inner sums
abbrev pub EachFactor : (Product → Type 0) → Summands → Type 0
EachFactor P (end b) = Unit {0}
EachFactor P (literals ls rest) = P ls × EachFactor P rest
EachFactor P (factored ls inner rest) = P ls × EachFactor P inner × EachFactor P rest

is_product_with : (t : Literal) (c : Product) → IsProduct c → ((u : Literal) → stands u c ≡ true → u.input ≢ t.input) → IsProduct (with_literal t c)
is_product_with t c product free j m =
    false_from_ne_true (stands (lit j false) (with_literal t c)) (λ k. elim (or_cases _ _ (sym (stands-with (lit j true) t c) ∙ m)) [
      | inl a ↦ elim (or_cases _ _ (sym (stands-with (lit j false) t c) ∙ k)) [
        | inl b ↦ false≢true (ap (λ (u : Literal). u.plain) (same_is (lit j false) t b ∙ sym (same_is (lit j true) t a)))
        | inr b ↦ free (lit j false) b (ap (λ (u : Literal). u.input) (same_is (lit j true) t a))
      ]
      | inr a ↦ elim (or_cases _ _ (sym (stands-with (lit j false) t c) ∙ k)) [
        | inl b ↦ free (lit j true) a (ap (λ (u : Literal). u.input) (same_is (lit j false) t b))
        | inr b ↦ false≢true (sym (product j a) ∙ b)
      ]
    ])

product_one : (t : Literal) → IsProduct (with_literal t whole)
product_one t j m = false_from_ne_true (stands (lit j false) (with_literal t whole)) (λ k. false≢true (ap (λ (u : Literal). u.plain) (stands-one (lit j false) t k ∙ sym (stands-one (lit j true) t m))))

plain_products : (cs : List Product) (b : Bool) → AllByRecursion IsProduct cs → EachFactor IsProduct (plain_sum (kept cs) b)
plain_products [] b h = tt
plain_products (c ∷ cs) b (h, hs) = elim (cases_Bool (is_empty c)) [ inl e ↦ rw e (plain_products cs b hs) | inr e ↦ rw e (h, plain_products cs b hs) ]

joined_products : (t : Literal) (inner rest : Summands) → EachFactor IsProduct inner × EachLiteral (λ u. u.input ≢ t.input) inner → EachFactor IsProduct rest → EachFactor IsProduct (joined t inner rest)
joined_products t inner rest h r =
    joined_by (λ s. EachFactor IsProduct s × EachLiteral (λ u. u.input ≢ t.input) s) (EachFactor IsProduct) t inner rest h
    (λ ls k. (is_product_with t ls k.0.0 k.1.0, r))
    (λ ls deeper k. (is_product_with t ls k.0.0 k.1.0, k.0.1, r))
    (λ k other. (product_one t, k.0, r))

pub products : (n : ℕ) (cs : List Product) (s : Summands) → IsSum cs s → All (IsOver n) cs → EachFactor IsProduct s
products n cs s (flat _ none) over = plain_products cs (list_any is_empty cs) (each_product n cs (recursion_from_All (IsOver n) cs over))
products n cs s (taken _ t inner rest most hold other) over =
    joined_products t inner rest (
      products n (holding t cs) inner hold (over_held n t cs over),
      each_literal (holding t cs) inner hold (λ u. u.input ≢ t.input) (none_stands t.input (holding t cs) (each_avoids t cs (each_product n cs (recursion_from_All (IsOver n) cs over)))),
    )
    (products n (others t cs) rest other (over_others n t cs over))

-- ---- signals

-- the literal has a signal: an input, or the inverter of one
abbrev pub Wired : Wires → Literal → Type 0
Wired w u = (u.input < w.inputs) × (u.plain ≡ false → list_any (λ i. eqb i u.input) w.turned ≡ true)

-- what is known of the sum of an output
pub record Ready (w : Wires) (s : Summands) : Type 0 where
  pub products : EachFactor IsProduct s
  pub wired : EachLiteral (Wired w) s

neg_stands : (u : Literal) (cs : List Product) → u.plain ≡ false → some_stands u cs ≡ true → list_any (λ c. has c.neg u.input) cs ≡ true
neg_stands u cs e m = ap (λ v. some_stands v cs) (sym (same e)) ∙ m
  where
    same : u.plain ≡ false → u ≡ lit u.input false
    same f = rw f refl

wired_literal : (e : Cubes) (cs : List Product) → All (IsOver e.n) cs → ((q : List Product → Bool) → q cs ≡ true → list_any q e.outs ≡ true) → (u : Literal) → some_stands u cs ≡ true → Wired (wires e) u
wired_literal e cs over up u m =
    let below : u.input < e.n = stands_below e.n u cs (recursion_from_All (IsOver e.n) cs over) m in (
      below,
      λ plain. any_kept (is_turned e.outs) u.input (up (λ ds. list_any (λ c. has c.neg u.input) ds) (neg_stands u cs plain m)) (range_with_len 0 e.n) (any_range 0 e.n u.input (omega arith) (omega (arith, below))),
    )

pub ready_all : (e : Cubes) (outs : List (List Product)) (sums : List Summands) → AreSums outs sums → AllByRecursion (All (IsOver e.n)) outs → ((q : List Product → Bool) → list_any q outs ≡ true → list_any q e.outs ≡ true) → AllByRecursion (Ready (wires e)) sums
ready_all e [] [] are over up = tt
ready_all e [] (s ∷ ss) are over up = absurd are
ready_all e (cs ∷ css) [] are over up = absurd are
ready_all e (cs ∷ css) (s ∷ ss) (is, are) (over, overs) up = (
  record {
    products = products e.n cs s is over;
    wired = each_literal cs s is (Wired (wires e)) (wired_literal e cs over (λ q m. up q (or_left (q cs) (list_any q css) m)));
  },
  ready_all e css ss are overs (λ q m. up q (or_right (q cs) (list_any q css) m)),
)

pub within_all : (n : ℕ) (outs : List (List Product)) (sums : List Summands) → AreSums outs sums → AllByRecursion (All (IsOver n)) outs → AllByRecursion (IsWithin n) sums
within_all n [] [] are over = tt
within_all n [] (s ∷ ss) are over = absurd are
within_all n (cs ∷ css) [] are over = absurd are
within_all n (cs ∷ css) (s ∷ ss) (is, are) (over, overs) = (each_literal cs s is (λ u. u.input < n) (λ u m. stands_below n u cs (recursion_from_All (IsOver n) cs over) m), within_all n css ss are overs)

-- ---- How the builder names gates, and that they have few pins.

-- the name of a gate after which so many others stand
abbrev pub name_of_cell : ℕ → ℕ → List ℕ → Bool → List ℕ
name_of_cell k c out last = cond last out (inner k (codes "g" ++ decimal (suc c)))

named_first : (k c : ℕ) (out : List ℕ) (x : Cell) (xs : List Cell) → named k c out (x ∷ xs) ≡ gate_of (name_of_cell k c out (eqb (length xs) 0)) x ∷ named k (suc c) out xs
named_first k c out x [] = refl
named_first k c out x (y ∷ ys) = rw (ne_eqb (suc (length ys)) 0 (λ e. absurd (omega (arith, e)))) refl

last_same : (i n : ℕ) → i < n → eqb (n - (i + 1)) 0 ≡ eqb (i + 1) n
last_same i n l = elim (cases_eq (i + 1) n) [
  | inl e ↦ eq-eqb (n - (i + 1)) 0 (omega (arith, e)) ∙ sym (eq-eqb (i + 1) n e)
  | inr other ↦ ne_eqb (n - (i + 1)) 0 (λ z. other (omega (arith, l, z))) ∙ sym (ne_eqb (i + 1) n other)
]

-- one more gate is named
-- an element that was read, and those after it
pub at_item : {X : Type 0} (xs : List X) (i : ℕ) (item : X) → i < length xs → item ≡ get_or xs i item → drop i xs ≡ item ∷ drop (i + 1) xs
at_item xs i item l is = drop_more xs i item l ∙ ap (λ x. x ∷ drop (i + 1) xs) (sym is)

pub named_more : (k c i : ℕ) (out name : List ℕ) (xs : List Cell) (x : Cell) (start now : List Gate) → i < length xs → x ≡ get_or xs i x → name ≡ name_of_cell k (c + i) out (eqb (i + 1) (length xs))
    → start ++ named k (c + i) out (drop i xs) ≡ now → (start ++ gate_of name x ∷ []) ++ named k (c + (i + 1)) out (drop (i + 1) xs) ≡ now
named_more k c i out name xs x start now l here name_is e =
    let s : c + (i + 1) ≡ suc (c + i) = omega arith in
    let len : length (drop (i + 1) xs) ≡ length xs - (i + 1) = length-drop (i + 1) xs in
    let last : eqb (length (drop (i + 1) xs)) 0 ≡ eqb (i + 1) (length xs) = ap (λ n. eqb n 0) len ∙ last_same i (length xs) l in
    rw (append_assoc, s) (rw (at_item xs i x l here, named_first k (c + i) out x (drop (i + 1) xs), last, ← name_is) at e)

-- ---- few pins

abbrev pub FewPins : List Cell → Type 0
FewPins cells = AllByRecursion (λ c. length (pins_of c) ≤ PINS) cells

within_inside : (n : ℕ) (c : Product) → ((t : Literal) → stands t c ≡ true → t.input < n) → inside (either c.pos c.neg) (first n) ≡ true
within_inside n c h = has-inside (either c.pos c.neg) (first n) (λ j m. has-first n j ∙ lt-ltb j n (elim (or_cases (has c.pos j) (has c.neg j) (sym (has-either c.pos c.neg j) ∙ m)) [ inl e ↦ h (lit j true) e | inr e ↦ h (lit j false) e ]))

pub length-signals : (w : Wires) (n : ℕ) (c : Product) → ((t : Literal) → stands t c ≡ true → t.input < n) → length (literal_signals w c) ≤ n
unfolding literal_signals
length-signals w n c h = omega (arith, length-map (members (either c.pos c.neg)) (λ j. literal_signal w (has c.pos j) j), length-members n (either c.pos c.neg) (within_inside n c h))

product_few : (k : ℕ) (signals : List ℕ) → length signals ≤ PINS → FewPins (product_of k signals).cells
product_few k signals l = elim (cases_Bool (eqb (length signals) 1)) [ inl e ↦ rw e tt | inr e ↦ rw e (l, tt) ]

join_few : (earlier : List Factor) (line : ℕ) (f : Factor) → length (pins_of (join earlier line f)) ≤ PINS
join_few earlier line f = elim (cases_Bool (are_excluded earlier f.literals)) [ inl e ↦ rw e (omega arith) | inr e ↦ rw e (omega arith) ]

joins_few : (k line : ℕ) (earlier fs : List Factor) → FewPins (joins k line earlier fs)
joins_few k line earlier [] = tt
joins_few k line earlier (f ∷ fs) = (join_few earlier line f, joins_few (suc k) k (earlier ++ f ∷ []) fs)

turned_few : (constant : Bool) (k : ℕ) (part : Part) → FewPins part.cells → FewPins (turned_by constant k part).cells
turned_few true k part h = each-append (λ c. length (pins_of c) ≤ PINS) part.cells (Inverter part.signal ∷ []) h (omega arith, tt)
turned_few false k part h = h

closing_few : (k : ℕ) (constant : Bool) (fs : List Factor) → FewPins (closing k constant fs).cells
closing_few k true [] = (omega arith, tt)
closing_few k false [] = (omega arith, tt)
closing_few k constant (f ∷ fs) = rw (closing_some k constant (f ∷ fs) (omega arith)) (turned_few constant k (chain_of k (f ∷ fs)) (joins_few k f.signal (f ∷ []) fs))

parts_few : (w : Wires) (n k : ℕ) (s : Summands) → n ≤ SOURCE_LINES → IsWithin n s → FewPins (parts w k s).cells
parts_few w n k (end b) few h = rw (parts-end w k b) tt
parts_few w n k (literals ls rest) few h =
    rw (parts-literals w k ls rest)
    (each-append (λ c. length (pins_of c) ≤ PINS) (literals_part w k ls).cells _ (product_few k (literal_signals w ls) (omega (arith, length-signals w n ls h.0)))
    (parts_few w n (k + length (literals_part w k ls).cells) rest few h.1))
parts_few w n k (factored ls inner rest) few h =
    rw (parts-factored w k ls inner rest)
    (each-append (λ c. length (pins_of c) ≤ PINS) (factored_part w k ls inner).cells _
    (each-append (λ c. length (pins_of c) ≤ PINS) (sum_part w k inner).cells (And (literal_signals w ls ++ (sum_part w k inner).signal ∷ []) ∷ [])
    (rw (sum_part-is w k inner) (each-append (λ c. length (pins_of c) ≤ PINS) (parts w k inner).cells _ (parts_few w n k inner few h.1) (closing_few _ (has_constant inner) _)))
    (omega (arith, length-append (literal_signals w ls) ((sum_part w k inner).signal ∷ []), length-signals w n ls h.0), tt))
    (parts_few w n (k + length (factored_part w k ls inner).cells) rest few h.2))

pub sum_few : (w : Wires) (n k : ℕ) (s : Summands) → n ≤ SOURCE_LINES → IsWithin n s → FewPins (sum_part w k s).cells
sum_few w n k s few h = rw (sum_part-is w k s) (each-append (λ c. length (pins_of c) ≤ PINS) (parts w k s).cells _ (parts_few w n k s few h) (closing_few _ (has_constant s) _))

pub output_few : (w : Wires) (n k : ℕ) (s : Summands) → n ≤ SOURCE_LINES → IsWithin n s → FewPins (output_cells w k s)
unfolding output_cells
output_few w n k s few h = elim (cases_Bool (eqb (length (sum_part w k s).cells) 0)) [ inl e ↦ rw e (omega arith, tt) | inr e ↦ rw e (sum_few w n k s few h) ]

-- ---- output after output

pub length-named : (k c : ℕ) (out : List ℕ) (cells : List Cell) → length (named k c out cells) ≡ length cells
length-named k c out [] = refl
length-named k c out (x ∷ []) = refl
length-named k c out (x ∷ y ∷ ys) = ap suc (length-named k (suc c) out (y ∷ ys))

-- the gates of one more output stand
pub outputs_more : (k : ℕ) (w : Wires) (sums : List Summands) (names : List (List ℕ)) (o c inner : ℕ) (s : Summands) (out : List ℕ) (now next all : List Gate)
    → o < length sums → o < length names → s ≡ get_or sums o s → out ≡ get_or names o out
    → next ≡ now ++ named k c out (output_cells w (w.inputs + length now) s) → inner ≡ length (output_cells w (w.inputs + length now) s) - 1
    → now ++ output_gates k w (w.inputs + length now) c (drop o sums) (drop o names) ≡ all
    → next ++ output_gates k w (w.inputs + length next) (c + inner) (drop (o + 1) sums) (drop (o + 1) names) ≡ all
outputs_more k w sums names o c inner s out now next all l m s_is out_is e i h =
    let cells = output_cells w (w.inputs + length now) s in
    let len : w.inputs + length next ≡ w.inputs + length now + length cells = omega (arith, ap length e, length-append now (named k c out cells), length-named k c out cells) in
    rw (len, i, e, append_assoc now (named k c out cells) _) (rw (at_item sums o s l s_is, at_item names o out m out_is) at h)

pub ends_more : (k c : ℕ) (w : Wires) (sums : List Summands) (o inner port : ℕ) (s : Summands) (out : List ℕ) (now next : List Gate) (ports all : List ℕ)
    → o < length sums → s ≡ get_or sums o s
    → next ≡ now ++ named k c out (output_cells w (w.inputs + length now) s) → inner ≡ length (output_cells w (w.inputs + length now) s) - 1 → port ≡ w.inputs + length now + inner
    → ports ++ ends w (w.inputs + length now) (drop o sums) ≡ all
    → (ports ++ port ∷ []) ++ ends w (w.inputs + length next) (drop (o + 1) sums) ≡ all
ends_more k c w sums o inner port s out now next ports all l s_is e i p h =
    let cells = output_cells w (w.inputs + length now) s in
    let len : w.inputs + length next ≡ w.inputs + length now + length cells = omega (arith, ap length e, length-append now (named k c out cells), length-named k c out cells) in
    rw (len, append_assoc, p, i) (rw (at_item sums o s l s_is) at h)

pub most_more : (sums : List Summands) (o : ℕ) (s : Summands) → o < length sums → s ≡ get_or sums o s → most_gates (drop o sums) ≡ (3 * nodes s + 1) + most_gates (drop (o + 1) sums)
most_more sums o s l e = ap most_gates (at_item sums o s l e)

-- it holds of the sum in a place
pub each_get : (P : Summands → Type 0) (sums : List Summands) → AllByRecursion P sums → (o : ℕ) (s : Summands) → o < length sums → s ≡ get_or sums o s → P s
each_get P sums h o s l e = subst P (sym e) (All-from_recursion P sums h o s l)

-- ---- the names of all gates

abbrev pub outs_of : List Gate → List (List ℕ)
outs_of gates = map (λ gate. gate.out) gates

inverter_names : (k : ℕ) (js : List ℕ) → outs_of (inverters k js) ≡ names_in k (record { letter = 105; texts = map (λ j. decimal (suc j)) js })
inverter_names k [] = refl
inverter_names k (j ∷ js) = ap (λ names. inner k (105 ∷ decimal (suc j)) ∷ names) (inverter_names k js)

named_names : (k c : ℕ) (out : List ℕ) (cells : List Cell) → 0 < length cells → outs_of (named k c out cells) ≡ numbered k 103 c (length cells - 1) ++ out ∷ []
named_names k c out [] some = absurd (omega (arith, some))
named_names k c out (cell ∷ []) some = refl
named_names k c out (cell ∷ next ∷ cells) some =
    let z : length (cell ∷ next ∷ cells) - 1 ≡ suc (length (next ∷ cells) - 1) = omega arith in
    let y : c + 1 ≡ suc c = omega arith in
    rw (z, y) (ap (λ names. inner k (103 ∷ decimal (suc c)) ∷ names) (named_names k (suc c) out (next ∷ cells) (omega arith)))

-- how many gates stand before the last one of each output
abbrev counts : Wires → ℕ → List Summands → List ℕ
counts w s [] = []
counts w s (sum ∷ sums) = let cells = output_cells w s sum in (length cells - 1) ∷ counts w (s + length cells) sums

few_counts : (w : Wires) (s : ℕ) (sums : List Summands) → sum (counts w s sums) ≤ most_gates sums
few_counts w s [] = omega arith
few_counts w s (sum ∷ sums) =
    let cells = output_cells w s sum in
    omega (arith, sum_by-cons (λ m. m) (length cells - 1) (counts w (s + length cells) sums), few_counts w (s + length cells) sums, output_bound w s sum)

output_names : (k : ℕ) (w : Wires) (s c : ℕ) (sums : List Summands) (outs : List (List ℕ)) → outs_of (output_gates k w s c sums outs) ≡ names_to_outputs k 103 c (counts w s sums) outs
output_names k w s c [] outs = refl
output_names k w s c (sum ∷ sums) [] = refl
output_names k w s c (sum ∷ sums) (out ∷ outs) =
    let cells = output_cells w s sum in
    let inner_names = numbered k 103 c (length cells - 1) in
    map-append (λ (gate : Gate). gate.out) (named k c out cells) (output_gates k w (s + length cells) (c + (length cells - 1)) sums outs)
    ∙ ap₂ (λ (a b : List (List ℕ)). a ++ b) (named_names k c out cells (output_some w s sum)) (output_names k w (s + length cells) (c + (length cells - 1)) sums outs)
    ∙ append_assoc inner_names (out ∷ []) (names_to_outputs k 103 (c + (length cells - 1)) (counts w (s + length cells) sums) outs)

pub gate_names : (k n s : ℕ) (p : ℕ → Bool) (w : Wires) (sums : List Summands) (outs : List (List ℕ)) → NamesDiffer → n < 2 ^ 63 → most_gates sums < 2 ^ 64
    → AreGateNames k outs (outs_of (inverters k (filter p (range_with_len 0 n)) ++ output_gates k w s 0 sums outs))
gate_names k n s p w sums outs differ small_n small =
    let js : List ℕ = filter p (range_with_len 0 n) in
    let texts : IsDistinct (map (λ j. decimal (suc j)) js) =
    differ.numbers js (All-from_recursion (λ j. suc j < 2 ^ 64) js (each_weaker (λ j. j < n) (λ j. suc j < 2 ^ 64) (λ j l. omega (arith, l)) js (range_below p 0 n n (omega arith)))) (AllPairs-from_Distinct js (Distinct-filter p (range_with_len 0 n) (Distinct-range 0 n))) in
    record {
      groups = record { letter = 105; texts = map (λ j. decimal (suc j)) js } ∷ [];
      letter = 103;
      counts = counts w s sums;
      are =
          map-append (λ (gate : Gate). gate.out) (inverters k js) (output_gates k w s 0 sums outs)
          ∙ ap₂ (λ (a b : List (List ℕ)). a ++ b) (inverter_names k js ∙ sym (append-nil _)) (output_names k w s 0 sums outs);
      letters = All-from_recursion IsLetter (103 ∷ 105 ∷ []) ((omega arith, omega arith), ((omega arith, omega arith), tt));
      other_letters = AllPairs-from_Distinct (103 ∷ 105 ∷ []) (((λ e. absurd (omega (arith, e))), tt), (tt, tt));
      other_texts = All-from_recursion (λ (group : Group). IsDistinct group.texts) (record { letter = 105; texts = map (λ j. decimal (suc j)) js } ∷ []) (texts, tt);
      few = omega (arith, small, few_counts w s sums);
    }

-- ---- The gates of the factored network are gates: their pins are earlier signals, and they have few pins.

-- ---- pins

-- the pins of the gate are signals before s
abbrev pub Reads : ℕ → Cell → Type 0
Reads s cell = AllByRecursion (λ pin. pin < s) (pins_of cell)

-- so do those of each gate of the list, the first of which has the signal s
abbrev pub EachReads : ℕ → List Cell → Type 0
EachReads s [] = Unit {0}
EachReads s (cell ∷ cells) = Reads s cell × EachReads (suc s) cells

reads_gate : (s : ℕ) (out : List ℕ) (cell : Cell) → is_name out ≡ true → Reads s cell → length (pins_of cell) ≤ PINS → IsGate s (gate_of out cell)
reads_gate s out cell named reads few = IsGate-cell s out cell named (All-from_recursion (λ pin. pin < s) (pins_of cell) reads) few

EachReads-append : (s : ℕ) (a b : List Cell) → EachReads s a → EachReads (s + length a) b → EachReads s (a ++ b)
EachReads-append s [] b h k = let z : s + 0 ≡ s = omega arith in subst (λ t. EachReads t b) z k
EachReads-append s (c ∷ a) b (h, hs) k = let z : s + suc (length a) ≡ suc s + length a = omega arith in (h, EachReads-append (suc s) a b hs (subst (λ t. EachReads t b) z k))

-- ---- signals

place_below : (xs : List ℕ) (j : ℕ) → list_any (λ y. eqb y j) xs ≡ true → position_or_len (λ y. eqb y j) xs < length xs
place_below [] j h = absurd (false≢true h)
place_below (y ∷ ys) j h = elim (cases_eq y j) [
  | inl e ↦ rw (eq-eqb y j e) (omega arith)
  | inr other ↦ rw (ne_eqb y j other) (omega (arith, place_below ys j (rw (ne_eqb y j other) at h)))
]

-- the signal after those of inputs and inverters
abbrev pub first_gate : Wires → ℕ
first_gate w = w.inputs + length w.turned

signal_below : (w : Wires) (u : Literal) → Wired w u → literal_signal w u.plain u.input < first_gate w
unfolding literal_signal
signal_below w u wired = elim (cases_Bool u.plain) [ inl e ↦ rw e (omega (arith, wired.0)) | inr e ↦ rw e (omega (arith, place_below w.turned u.input (wired.1 e))) ]

sign_below : (w : Wires) (c : Product) (j : ℕ) → ((u : Literal) → stands u c ≡ true → Wired w u) → has (either c.pos c.neg) j ≡ true → literal_signal w (has c.pos j) j < first_gate w
sign_below w c j wired m = elim (cases_Bool (has c.pos j)) [
  | inl e ↦ rw e (signal_below w (lit j true) (wired (lit j true) e))
  | inr e ↦ elim (or_cases (has c.pos j) (has c.neg j) (sym (has-either c.pos c.neg j) ∙ m)) [
    | inl k ↦ absurd (false≢true (sym e ∙ k))
    | inr k ↦ rw e (signal_below w (lit j false) (wired (lit j false) k))
  ]
]

signals_below : (w : Wires) (c : Product) (s : ℕ) → first_gate w ≤ s → ((u : Literal) → stands u c ≡ true → Wired w u) → AllByRecursion (λ pin. pin < s) (literal_signals w c)
unfolding literal_signals
signals_below w c s low wired =
    each-map (λ pin. pin < s) (λ j. literal_signal w (has c.pos j) j) (members (either c.pos c.neg))
    (each_member (λ j. literal_signal w (has c.pos j) j < s) (members (either c.pos c.neg)) (λ j m. omega (arith, low, sign_below w c j wired (sym (members-has (either c.pos c.neg) j) ∙ m))))

-- ---- parts

-- the signals of the summands come before s
abbrev Before : ℕ → List Factor → Type 0
Before s fs = AllByRecursion (λ f. f.signal < s) fs

later : (s t : ℕ) (fs : List Factor) → s ≤ t → Before s fs → Before t fs
later s t fs l h = each_weaker (λ (f : Factor). f.signal < s) (λ f. f.signal < t) (λ f k. omega (arith, k, l)) fs h

product_reads : (k : ℕ) (signals : List ℕ) → AllByRecursion (λ pin. pin < k) signals → EachReads k (product_of k signals).cells × ((product_of k signals).signal < k + length (product_of k signals).cells)
product_reads k signals h = elim (cases_Bool (eqb (length signals) 1)) [
  | inl e ↦ rw e (tt, first signals e h)
  | inr e ↦ rw e ((h, tt), omega arith)
]
  where
    first : (ss : List ℕ) → eqb (length ss) 1 ≡ true → AllByRecursion (λ pin. pin < k) ss → slice_index ss 0 < k + 0
    first [] z g = absurd (false≢true z)
    first (s ∷ ss) z (g, _) = omega (arith, g)

join_reads : (s : ℕ) (earlier : List Factor) (line : ℕ) (f : Factor) → line < s → f.signal < s → Reads s (join earlier line f)
join_reads s earlier line f l m = elim (cases_Bool (are_excluded earlier f.literals)) [ inl e ↦ rw e (l, (m, tt)) | inr e ↦ rw e (l, (m, tt)) ]

joins_read : (k line : ℕ) (earlier fs : List Factor) → line < k → Before k fs → EachReads k (joins k line earlier fs)
joins_read k line earlier [] l h = tt
joins_read k line earlier (f ∷ fs) l (h, hs) = (join_reads k earlier line f l h, joins_read (suc k) k (earlier ++ f ∷ []) fs (omega arith) (later k (suc k) fs (omega arith) hs))

last_before : (k line n : ℕ) → line < k → last_of k line n < k + n
last_before k line n l = elim (cases_eq n 0) [ inl e ↦ rw (eq-eqb n 0 e) (omega (arith, l, e)) | inr some ↦ rw (ne_eqb n 0 some) (omega (arith, some)) ]

closing_reads : (k : ℕ) (constant : Bool) (fs : List Factor) → Before k fs → EachReads k (closing k constant fs).cells × ((closing k constant fs).signal < k + length (closing k constant fs).cells)
closing_reads k true [] h = ((tt, tt), omega arith)
closing_reads k false [] h = ((tt, tt), omega arith)
closing_reads k constant (f ∷ fs) (h, hs) = rw (closing_some k constant (f ∷ fs) (omega arith)) (by constant)
  where
    chain : EachReads k (joins k f.signal (f ∷ []) fs)
    chain = joins_read k f.signal (f ∷ []) fs h hs

    by : (b : Bool) → EachReads k (turned_by b k (chain_of k (f ∷ fs))).cells × ((turned_by b k (chain_of k (f ∷ fs))).signal < k + length (turned_by b k (chain_of k (f ∷ fs))).cells)
    by true =
        let len = length-joins k f.signal (f ∷ []) fs in
        let line : last_of k f.signal (length fs) < k + length (joins k f.signal (f ∷ []) fs) = omega (arith, len, last_before k f.signal (length fs) h) in (
          EachReads-append k (joins k f.signal (f ∷ []) fs) (Inverter (last_of k f.signal (length fs)) ∷ []) chain ((line, tt), tt),
          omega (arith, length-append (joins k f.signal (f ∷ []) fs) (Inverter (last_of k f.signal (length fs)) ∷ [])),
        )
    by false = (chain, omega (arith, length-joins k f.signal (f ∷ []) fs, last_before k f.signal (length fs) h))

-- the pins of the gates of summands are earlier, and so are the summands' signals for what follows
pub record PartsRead (k : ℕ) (p : Parts) : Type 0 where
  pub cells : EachReads k p.cells
  pub factors : Before (k + length p.cells) p.factors

-- one part before others
part_before : (k : ℕ) (ls : Product) (part : Part) (rest : Parts) → EachReads k part.cells → part.signal < k + length part.cells → PartsRead (k + length part.cells) rest → PartsRead k (before ls part rest)
part_before k ls part rest h l more =
    let len = length-append part.cells rest.cells in
    record {
      cells = EachReads-append k part.cells rest.cells h more.cells;
      factors = (omega (arith, l, len), later (k + length part.cells + length rest.cells) (k + length (part.cells ++ rest.cells)) rest.factors (omega (arith, len)) more.factors);
    }

sum_reads : (w : Wires) (k : ℕ) (s : Summands) → PartsRead k (parts w k s) → EachReads k (sum_part w k s).cells × ((sum_part w k s).signal < k + length (sum_part w k s).cells)
sum_reads w k s h =
    let p : Parts = parts w k s in
    let m = k + length p.cells in
    let end_part = closing_reads m (has_constant s) p.factors h.factors in
    rw (sum_part-is w k s) (EachReads-append k p.cells (closing m (has_constant s) p.factors).cells h.cells end_part.0, omega (arith, end_part.1, length-append p.cells (closing m (has_constant s) p.factors).cells))

pub parts_read : (w : Wires) (k : ℕ) (s : Summands) → first_gate w ≤ k → EachLiteral (Wired w) s → PartsRead k (parts w k s)
parts_read w k (end b) low wired = rw (parts-end w k b) (record { cells = tt; factors = tt })
parts_read w k (literals ls rest) low wired =
    let part = literals_part w k ls in
    let own = product_reads k (literal_signals w ls) (signals_below w ls k low wired.0) in
    rw (parts-literals w k ls rest) (part_before k ls part (parts w (k + length part.cells) rest) own.0 own.1 (parts_read w (k + length part.cells) rest (omega (arith, low)) wired.1))
parts_read w k (factored ls inner rest) low wired =
    let part = factored_part w k ls inner in
    let deeper = sum_reads w k inner (parts_read w k inner low wired.1) in
    let m = k + length (sum_part w k inner).cells in
    let pins = each-append (λ pin. pin < m) (literal_signals w ls) ((sum_part w k inner).signal ∷ []) (signals_below w ls m (omega (arith, low)) wired.0) (deeper.1, tt) in
    let len = length-append (sum_part w k inner).cells (And (literal_signals w ls ++ (sum_part w k inner).signal ∷ []) ∷ []) in
    rw (parts-factored w k ls inner rest)
    (part_before k ls part (parts w (k + length part.cells) rest)
    (EachReads-append k (sum_part w k inner).cells (And (literal_signals w ls ++ (sum_part w k inner).signal ∷ []) ∷ []) deeper.0 (pins, tt))
    (omega (arith, len))
    (parts_read w (k + length part.cells) rest (omega (arith, low)) wired.2))

pub output_reads : (w : Wires) (k : ℕ) (s : Summands) → first_gate w ≤ k → EachLiteral (Wired w) s → EachReads k (output_cells w k s)
unfolding output_cells
output_reads w k s low wired =
    let h = sum_reads w k s (parts_read w k s low wired) in
    elim (cases_eq (length (sum_part w k s).cells) 0) [
      | inl e ↦ rw (eq-eqb (length (sum_part w k s).cells) 0 e) ((omega (arith, h.1, e), tt), tt)
      | inr some ↦ rw (ne_eqb (length (sum_part w k s).cells) 0 some) h.0
    ]

-- ---- named gates

inner_named : (k b n : ℕ) → k ≤ SOURCE_NAME_BYTES + 1 → IsLetter b → n < 2 ^ 64 → is_name (inner k (b ∷ decimal n)) ≡ true
inner_named k b n short letter small = numbered_is_name k b n (inner k (b ∷ decimal n)) refl short letter small

pub AreGates-named : (k c s : ℕ) (out : List ℕ) (cells : List Cell) → k ≤ SOURCE_NAME_BYTES + 1 → c + length cells < 2 ^ 64 → is_name out ≡ true → EachReads s cells → FewPins cells → EachAt IsGate s (named k c out cells)
unfolding EachAt
AreGates-named k c s out [] short small name reads few = tt
AreGates-named k c s out (cell ∷ []) short small name (reads, _) (few, _) = (reads_gate s out cell name reads few, tt)
AreGates-named k c s out (cell ∷ next ∷ cells) short small name (reads, more) (few, fews) = (
  reads_gate s (inner k (103 ∷ decimal (suc c))) cell (inner_named k 103 (suc c) short (omega arith, omega arith) (omega (arith, small))) reads few,
  AreGates-named k (suc c) (suc s) out (next ∷ cells) short (omega (arith, small)) name more fews,
)

pub AreGates-inverters : (k s : ℕ) (js : List ℕ) → k ≤ SOURCE_NAME_BYTES + 1 → s + length js < 2 ^ 63 → AllByRecursion (λ j. j < s) js → EachAt IsGate s (inverters k js)
unfolding EachAt
AreGates-inverters k s [] short small h = tt
AreGates-inverters k s (j ∷ js) short small (h, hs) = (
  IsGate-inverter s (inner k (105 ∷ decimal (suc j))) j (inner_named k 105 (suc j) short (omega arith, omega arith) (omega (arith, h, small))) h,
  AreGates-inverters k (suc s) js short (omega (arith, small)) (each_weaker (λ i. i < s) (λ i. i < suc s) (λ i l. omega (arith, l)) js hs),
)

-- ---- all gates

pub AreGates-outputs : (k : ℕ) (w : Wires) (s c : ℕ) (sums : List Summands) (outs : List (List ℕ)) → k ≤ SOURCE_NAME_BYTES + 1 → w.inputs ≤ SOURCE_LINES → first_gate w ≤ s → c + most_gates sums < 2 ^ 63 → AllByRecursion (λ o. is_name o ≡ true) outs → AllByRecursion (Ready w) sums → AllByRecursion (IsWithin w.inputs) sums
    → EachAt IsGate s (output_gates k w s c sums outs)
unfolding EachAt
AreGates-outputs k w s c [] outs short few low small names ready within = tt
AreGates-outputs k w s c (sum ∷ sums) [] short few low small names ready within = tt
AreGates-outputs k w s c (sum ∷ sums) (out ∷ outs) short few low small (name, names) (ready, more) (within, withins) =
    let cells = output_cells w s sum in
    let bound = output_bound w s sum in
    let z : s + length (named k c out cells) ≡ s + length cells = ap (λ n. s + n) (length-named k c out cells) in
    EachAt-join IsGate s (named k c out cells) (output_gates k w (s + length cells) (c + (length cells - 1)) sums outs)
    (AreGates-named k c s out cells short (omega (arith, small, bound)) name (output_reads w s sum low ready.wired) (output_few w w.inputs s sum few within))
    (rw z (AreGates-outputs k w (s + length cells) (c + (length cells - 1)) sums outs short few (omega (arith, low)) (omega (arith, small, bound)) names more withins))

pub length-outputs : (k : ℕ) (w : Wires) (s c : ℕ) (sums : List Summands) (outs : List (List ℕ)) → length (output_gates k w s c sums outs) ≤ most_gates sums
length-outputs k w s c [] outs = omega arith
length-outputs k w s c (sum ∷ sums) [] = omega arith
length-outputs k w s c (sum ∷ sums) (out ∷ outs) =
    let cells = output_cells w s sum in
    omega (arith, length-append (named k c out cells) (output_gates k w (s + length cells) (c + (length cells - 1)) sums outs), length-named k c out cells, output_bound w s sum, length-outputs k w (s + length cells) (c + (length cells - 1)) sums outs)

-- ---- ports

pub ends_apart : (k : ℕ) (w : Wires) (s c : ℕ) (sums : List Summands) (outs : List (List ℕ)) → length sums ≡ length outs → AllByRecursion (λ p. (s ≤ p) × (p < s + length (output_gates k w s c sums outs))) (ends w s sums) × Distinct (ends w s sums)
ends_apart k w s c [] outs same = (tt, tt)
ends_apart k w s c (sum ∷ sums) [] same = absurd (omega (arith, same))
ends_apart k w s c (sum ∷ sums) (out ∷ outs) same =
    let cells = output_cells w s sum in
    let next : ℕ = s + length cells in
    let rest = output_gates k w next (c + (length cells - 1)) sums outs in
    let len : length (named k c out cells ++ rest) ≡ length cells + length rest = length-append (named k c out cells) rest ∙ ap (λ n. n + length rest) (length-named k c out cells) in
    let r = ends_apart k w next (c + (length cells - 1)) sums outs (omega (arith, same)) in (
      ((omega arith, omega (arith, len, output_some w s sum)), each_weaker (λ p. (next ≤ p) × (p < next + length rest)) (λ p. (s ≤ p) × (p < s + length (named k c out cells ++ rest))) (λ p h. (omega (arith, h.0), omega (arith, h.1, len))) (ends w next sums) r.0),
      (each_weaker (λ p. (next ≤ p) × (p < next + length rest)) (λ p. s + (length cells - 1) ≢ p) (λ p h same. omega (arith, h.0, same, output_some w s sum)) (ends w next sums) r.0, r.1),
    )

pub length-ends : (w : Wires) (s : ℕ) (sums : List Summands) → length (ends w s sums) ≡ length sums
length-ends w s [] = refl
length-ends w s (sum ∷ sums) = ap suc (length-ends w (s + length (output_cells w s sum)) sums)
