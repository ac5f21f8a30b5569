-- How many gates a sum has.
use Rattle.std.proofs.Common.{◌≡◌, ℕ, zero, suc, ◌+◌, ◌-◌, ◌*◌, ◌<◌, ◌≤◌, Bool, true, false, List, [], ◌∷◌, ◌++◌, length, refl, sym, ap, ◌∙◌, arith, eqb, ne_eqb, length-append, inl, inr, append_assoc, ◌&&◌, ◌||◌, cond, eq-eqb}
use Rattle.std.proofs.lemmas.Bool.{cases_Bool, false≢true}
use Rattle.ae_base.specs.Cube.{Product}
use Rattle.ae_net.specs.declared.gates.Cell.TheVariants.{And, Inverter, Zero, One, Buffer, Exor, Or}
use Rattle.factor.specs.declared.parts.Factor.{Factor}
use Rattle.factor.specs.declared.parts.Wires.{Wires}
use Rattle.factor.specs.Cells.{Part, Parts, literal_signals, product_of, product_with, before, joins, chain_of, closing, closed, turned_by, parts, sum_part, output_cells, are_excluded, join}
use Rattle.factor.specs.Sums.{Summands, has_constant, nodes}
use Rattle.factor.specs.Sums.Summands.{end, literals, factored}
use Rattle.factor.proofs.Meaning.{flag, width, own_joins, inner_joins, weight_bound}
use Rattle.ae_net.specs.declared.gates.Cell.{Cell}
use Rattle.std.specs.Prelude.{codes, count_by, sum_by}
use Rattle.std.specs.Fmt.{decimal}
use Rattle.std.proofs.Math.Bool.{and-false}
use Rattle.std.proofs.lemmas.List.Sums.{sum_by-cons, sum_by-append}
use Rattle.ae_base.specs.Mask.{has, empty, with}
use Rattle.ae_base.proofs.Sets.{has-empty, has-with}
use Rattle.ae_net.specs.declared.net.Gate.{Gate}
use Rattle.ae_net.specs.Names.{inner}
use Rattle.ae_net.specs.Gates.{gate_of}
use Rattle.factor.specs.Factored.{inverters, named, output_gates, AreSums}
use Rattle.factor.specs.Shows.{is_exor}
use Rattle.std.proofs.lemmas.Bool.Decides.{nat_tests}

pub length-joins : (k line : ℕ) (earlier fs : List Factor) → length (joins k line earlier fs) ≡ length fs
length-joins k line earlier [] = refl
length-joins k line earlier (f ∷ fs) = ap suc (length-joins (suc k) k (earlier ++ f ∷ []) fs)

pub length-chain : (k : ℕ) (fs : List Factor) → length (chain_of k fs).cells ≡ length fs - 1
length-chain k [] = refl
length-chain k (f ∷ fs) = length-joins k f.signal (f ∷ []) fs ∙ omega arith

-- the number of gates that close so many summands
abbrev pub close_count : ℕ → Bool → ℕ
close_count zero constant = 1
close_count (suc n) constant = n + flag constant

pub closing_some : (k : ℕ) (constant : Bool) (fs : List Factor) → 0 < length fs → closing k constant fs ≡ turned_by constant k (chain_of k fs)
closing_some k constant fs l = rw (ne_eqb (length fs) 0 (λ e. absurd (omega (arith, e, l)))) refl

pub length-turned : (constant : Bool) (k : ℕ) (chain : Part) → length (turned_by constant k chain).cells ≡ length chain.cells + flag constant
length-turned true k chain = length-append chain.cells (Inverter chain.signal ∷ [])
length-turned false k chain = omega arith

pub length-closing : (k : ℕ) (constant : Bool) (fs : List Factor) → length (closing k constant fs).cells ≡ close_count (length fs) constant
length-closing k constant [] = refl
length-closing k constant (f ∷ fs) =
    ap (λ (part : Part). length part.cells) (closing_some k constant (f ∷ fs) (omega arith))
    ∙ length-turned constant k (chain_of k (f ∷ fs))
    ∙ omega (arith, length-joins k f.signal (f ∷ []) fs)

product_length : (k : ℕ) (signals : List ℕ) → length (product_of k signals).cells ≤ 1
product_length k signals = elim (cases_Bool (eqb (length signals) 1)) [ inl e ↦ rw e (omega arith) | inr e ↦ rw e (omega arith) ]

-- ---- the parts of each kind of sum

pub parts-end : (w : Wires) (k : ℕ) (b : Bool) → parts w k (end b) ≡ record { cells = []; factors = [] }
unfolding parts
parts-end w k b = refl

-- the part of the first summand
abbrev pub literals_part : Wires → ℕ → Product → Part
literals_part w k ls = product_of k (literal_signals w ls)

abbrev pub factored_part : Wires → ℕ → Product → Summands → Part
factored_part w k ls inner = product_with k (literal_signals w ls) (sum_part w k inner)

pub parts-literals : (w : Wires) (k : ℕ) (ls : Product) (rest : Summands) → parts w k (literals ls rest) ≡ before ls (literals_part w k ls) (parts w (k + length (literals_part w k ls).cells) rest)
unfolding parts
parts-literals w k ls rest = refl

pub parts-factored : (w : Wires) (k : ℕ) (ls : Product) (inner rest : Summands) → parts w k (factored ls inner rest) ≡ before ls (factored_part w k ls inner) (parts w (k + length (factored_part w k ls inner).cells) rest)
unfolding parts sum_part
parts-factored w k ls inner rest = refl

pub sum_part-is : (w : Wires) (k : ℕ) (s : Summands) → sum_part w k s ≡ closed k (has_constant s) (parts w k s)
unfolding sum_part
sum_part-is w k s = refl

-- ---- bounds

pub length-factors : (w : Wires) (k : ℕ) (s : Summands) → length (parts w k s).factors ≡ width s
length-factors w k (end b) = ap (λ (p : Parts). length p.factors) (parts-end w k b)
length-factors w k (literals ls rest) = ap (λ (p : Parts). length p.factors) (parts-literals w k ls rest) ∙ ap suc (length-factors w (k + length (literals_part w k ls).cells) rest)
length-factors w k (factored ls inner rest) = ap (λ (p : Parts). length p.factors) (parts-factored w k ls inner rest) ∙ ap suc (length-factors w (k + length (factored_part w k ls inner).cells) rest)

close_le : (n : ℕ) (b : Bool) → close_count n b ≤ n + 1
close_le zero b = omega arith
close_le (suc n) true = omega arith
close_le (suc n) false = omega arith

pub length-sum : (w : Wires) (k : ℕ) (s : Summands) → length (sum_part w k s).cells ≡ length (parts w k s).cells + close_count (width s) (has_constant s)
length-sum w k s =
    ap (λ (p : Part). length p.cells) (sum_part-is w k s)
    ∙ length-append (parts w k s).cells (closing (k + length (parts w k s).cells) (has_constant s) (parts w k s).factors).cells
    ∙ ap (λ n. length (parts w k s).cells + n) (length-closing (k + length (parts w k s).cells) (has_constant s) (parts w k s).factors ∙ ap (λ n. close_count n (has_constant s)) (length-factors w k s))

pub parts_bound : (w : Wires) (k : ℕ) (s : Summands) → length (parts w k s).cells + width s ≤ 3 * nodes s
parts_bound w k (end b) = omega (arith, ap (λ (p : Parts). length p.cells) (parts-end w k b))
parts_bound w k (literals ls rest) =
    let next = k + length (literals_part w k ls).cells in
    omega (arith, ap (λ (p : Parts). length p.cells) (parts-literals w k ls rest), length-append (literals_part w k ls).cells (parts w next rest).cells, product_length k (literal_signals w ls), parts_bound w next rest)
parts_bound w k (factored ls inner rest) =
    let next = k + length (factored_part w k ls inner).cells in
    omega (
      arith,
      ap (λ (p : Parts). length p.cells) (parts-factored w k ls inner rest),
      length-append (factored_part w k ls inner).cells (parts w next rest).cells,
      length-append (sum_part w k inner).cells (And (literal_signals w ls ++ (sum_part w k inner).signal ∷ []) ∷ []),
      length-sum w k inner,
      close_le (width inner) (has_constant inner),
      parts_bound w k inner,
      parts_bound w next rest,
    )

pub sum_bound : (w : Wires) (k : ℕ) (s : Summands) → length (sum_part w k s).cells ≤ 3 * nodes s + 1
sum_bound w k s = omega (arith, length-sum w k s, close_le (width s) (has_constant s), parts_bound w k s)

pub output_bound : (w : Wires) (k : ℕ) (s : Summands) → length (output_cells w k s) ≤ 3 * nodes s + 1
unfolding output_cells
output_bound w k s = elim (cases_Bool (eqb (length (sum_part w k s).cells) 0)) [ inl e ↦ rw e (omega arith) | inr e ↦ rw e (sum_bound w k s) ]

pub output_some : (w : Wires) (k : ℕ) (s : Summands) → 0 < length (output_cells w k s)
unfolding output_cells
output_some w k s = elim (cases_Bool (eqb (length (sum_part w k s).cells) 0)) [ inl e ↦ rw e (omega arith) | inr e ↦ rw e (positive (length (sum_part w k s).cells) e) ]
  where
    positive : (n : ℕ) → eqb n 0 ≡ false → 0 < n
    positive n h = grind (arith, nat_tests)

-- ---- The gates that the builder adds part by part are those of the sum.

-- a part before the rest: the gates of both after those that stand
after_part : (first : ℕ) (old part now : List Cell) → now ≡ old ++ part → first + length now ≡ first + length old + length part
after_part first old part now e = omega (arith, ap length e, length-append old part)

-- the part of a first summand is there, and the gates of the others follow
pub part_cells : (w : Wires) (first : ℕ) (ls : Product) (part : Part) (s rest : Summands) (old now : List Cell) → parts w (first + length old) s ≡ before ls part (parts w (first + length old + length part.cells) rest) → now ≡ old ++ part.cells
    → now ++ (parts w (first + length now) rest).cells ≡ old ++ (parts w (first + length old) s).cells
part_cells w first ls part s rest old now is e =
    rw (after_part first old part.cells now e, is, e) (append_assoc old part.cells (parts w (first + length old + length part.cells) rest).cells)

pub part_factors : (w : Wires) (first : ℕ) (ls : Product) (part : Part) (s rest : Summands) (old now : List Cell) (earlier joined : List Factor) (line : ℕ) → parts w (first + length old) s ≡ before ls part (parts w (first + length old + length part.cells) rest)
    → now ≡ old ++ part.cells → line ≡ part.signal → joined ≡ earlier ++ record { literals = ls; signal = line } ∷ [] → joined ++ (parts w (first + length now) rest).factors ≡ earlier ++ (parts w (first + length old) s).factors
part_factors w first ls part s rest old now earlier joined line is e signal j =
    rw (after_part first old part.cells now e, is, j, signal) (append_assoc earlier (record { literals = ls; signal = part.signal } ∷ []) (parts w (first + length old + length part.cells) rest).factors)

-- after the gates of the inner sum and the AND gate
pub factored_cells : (w : Wires) (first : ℕ) (ls : Product) (inner rest : Summands) (old half now : List Cell) (line : ℕ) → half ≡ old ++ (sum_part w (first + length old) inner).cells → line ≡ (sum_part w (first + length old) inner).signal
    → now ≡ half ++ And (literal_signals w ls ++ line ∷ []) ∷ [] → now ≡ old ++ (factored_part w (first + length old) ls inner).cells
factored_cells w first ls inner rest old half now line e l a =
    let part = sum_part w (first + length old) inner in
    a ∙ ap (λ (cs : List Cell). cs ++ And (literal_signals w ls ++ line ∷ []) ∷ []) e
    ∙ ap (λ t. (old ++ part.cells) ++ And (literal_signals w ls ++ t ∷ []) ∷ []) l
    ∙ append_assoc old part.cells (And (literal_signals w ls ++ part.signal ∷ []) ∷ [])

pub factored_signal : (w : Wires) (first : ℕ) (ls : Product) (inner : Summands) (old half : List Cell) (s : ℕ) → half ≡ old ++ (sum_part w (first + length old) inner).cells → s ≡ first + length half → s ≡ (factored_part w (first + length old) ls inner).signal
factored_signal w first ls inner old half s e signal = omega (arith, signal, after_part first old (sum_part w (first + length old) inner).cells half e)

-- the gates that close a sum after those of its summands
pub sum_cells : (w : Wires) (first : ℕ) (s : Summands) (old now : List Cell) → now ≡ old ++ (parts w (first + length old) s).cells
    → now ++ (closing (first + length now) (has_constant s) (parts w (first + length old) s).factors).cells ≡ old ++ (sum_part w (first + length old) s).cells
sum_cells w first s old now e =
    let k = first + length old in
    let p = parts w k s in
    rw (after_part first old p.cells now e, sum_part-is w k s) (ap (λ (cs : List Cell). cs ++ (closing (k + length p.cells) (has_constant s) p.factors).cells) e ∙ append_assoc old p.cells (closing (k + length p.cells) (has_constant s) p.factors).cells)

pub sum_signal : (w : Wires) (first : ℕ) (s : Summands) (old now : List Cell) → now ≡ old ++ (parts w (first + length old) s).cells
    → (closing (first + length now) (has_constant s) (parts w (first + length old) s).factors).signal ≡ (sum_part w (first + length old) s).signal
sum_signal w first s old now e =
    let k = first + length old in
    rw (after_part first old (parts w k s).cells now e, sum_part-is w k s) refl

-- ---- The factored network has no more EXOR gates than the ESOP has cubes.

-- ---- gates

other_set : (j : ℕ) → eqb empty (with empty j) ≡ false
other_set j = ne_eqb empty (with empty j) (λ e. false≢true (sym (has-empty j) ∙ ap (λ s. has s j) e ∙ has-with empty j j ∙ ap (λ b. b || has empty j) (eq-eqb j j refl)))

abbrev pub is_exor_cell : Cell → Bool
is_exor_cell Zero = false
is_exor_cell One = false
is_exor_cell (Inverter a) = false
is_exor_cell (Buffer a) = false
is_exor_cell (And pins) = false
is_exor_cell (Exor a b) = true
is_exor_cell (Or a b) = false

exor_gate : (out : List ℕ) (cell : Cell) → is_exor (gate_of out cell) ≡ is_exor_cell cell
exor_gate out Zero = refl
exor_gate out One = refl
exor_gate out (Inverter a) = and-false (eqb 1 2 && true)
exor_gate out (Buffer a) = and-false (eqb 1 2 && true)
exor_gate out (And pins) = and-false (eqb (length pins) 2 && true)
exor_gate out (Exor a b) = rw (eq-eqb (with empty 0) (with empty 0) refl, eq-eqb (with empty 1) (with empty 1) refl) refl
exor_gate out (Or a b) = rw (other_set 1, and-false (eqb (with empty 0) (with empty 0))) refl

-- ---- numbers of EXOR gates

abbrev pub exors : List Cell → ℕ
exors [] = 0
exors (cell ∷ cells) = cond (is_exor_cell cell) 1 0 + exors cells

exors-append : (a b : List Cell) → exors (a ++ b) ≡ exors a + exors b
exors-append [] b = omega arith
exors-append (cell ∷ a) b = omega (arith, exors-append a b)

product_exors : (k : ℕ) (signals : List ℕ) → exors (product_of k signals).cells ≡ 0
product_exors k signals = elim (cases_Bool (eqb (length signals) 1)) [ inl e ↦ rw e refl | inr e ↦ rw e refl ]

join_exors : (earlier : List Factor) (line : ℕ) (f : Factor) → cond (is_exor_cell (join earlier line f)) 1 0 ≤ 1
join_exors earlier line f = elim (cases_Bool (are_excluded earlier f.literals)) [ inl e ↦ rw e (omega arith) | inr e ↦ rw e (omega arith) ]

joins_exors : (k line : ℕ) (earlier fs : List Factor) → exors (joins k line earlier fs) ≤ length fs
joins_exors k line earlier [] = omega arith
joins_exors k line earlier (f ∷ fs) = omega (arith, join_exors earlier line f, joins_exors (suc k) k (earlier ++ f ∷ []) fs)

turned_exors : (b : Bool) (k : ℕ) (part : Part) → exors (turned_by b k part).cells ≡ exors part.cells
turned_exors true k part = exors-append part.cells (Inverter part.signal ∷ []) ∙ omega arith
turned_exors false k part = refl

closing_exors : (k : ℕ) (b : Bool) (fs : List Factor) → exors (closing k b fs).cells ≤ length fs - 1
closing_exors k true [] = omega arith
closing_exors k false [] = omega arith
closing_exors k b (f ∷ fs) = omega (arith, ap (λ (q : Part). exors q.cells) (closing_some k b (f ∷ fs) (omega arith)), turned_exors b k (chain_of k (f ∷ fs)), joins_exors k f.signal (f ∷ []) fs)

sum_exors_by : (w : Wires) (k : ℕ) (s : Summands) → exors (parts w k s).cells ≤ inner_joins s → exors (sum_part w k s).cells ≤ own_joins s + inner_joins s
sum_exors_by w k s h =
    let p : Parts = parts w k s in
    let m = k + length p.cells in
    omega (arith, ap (λ (q : Part). exors q.cells) (sum_part-is w k s), exors-append p.cells (closing m (has_constant s) p.factors).cells, closing_exors m (has_constant s) p.factors, length-factors w k s, h)

parts_exors : (w : Wires) (k : ℕ) (s : Summands) → exors (parts w k s).cells ≤ inner_joins s
parts_exors w k (end b) = omega (arith, ap (λ (p : Parts). exors p.cells) (parts-end w k b))
parts_exors w k (literals ls rest) =
    let part = literals_part w k ls in
    let next = k + length part.cells in
    omega (arith, ap (λ (p : Parts). exors p.cells) (parts-literals w k ls rest), exors-append part.cells (parts w next rest).cells, product_exors k (literal_signals w ls), parts_exors w next rest)
parts_exors w k (factored ls inner rest) =
    let part = factored_part w k ls inner in
    let next = k + length part.cells in
    omega (
      arith,
      ap (λ (p : Parts). exors p.cells) (parts-factored w k ls inner rest),
      exors-append part.cells (parts w next rest).cells,
      exors-append (sum_part w k inner).cells (And (literal_signals w ls ++ (sum_part w k inner).signal ∷ []) ∷ []),
      sum_exors_by w k inner (parts_exors w k inner),
      parts_exors w next rest,
    )

output_exors : (w : Wires) (k : ℕ) (s : Summands) → exors (output_cells w k s) ≤ own_joins s + inner_joins s
unfolding output_cells
output_exors w k s = elim (cases_Bool (eqb (length (sum_part w k s).cells) 0)) [ inl e ↦ rw e (omega arith) | inr e ↦ rw e (sum_exors_by w k s (parts_exors w k s)) ]

-- ---- gates with names

gate_exors : (out : List ℕ) (cell : Cell) (gs : List Gate) → count_by is_exor (gate_of out cell ∷ gs) ≡ cond (is_exor_cell cell) 1 0 + count_by is_exor gs
gate_exors out cell gs = sum_by-cons (λ g. cond (is_exor g) 1 0) (gate_of out cell) gs ∙ ap (λ b. cond b 1 0 + count_by is_exor gs) (exor_gate out cell)

named_exors : (k c : ℕ) (out : List ℕ) (cells : List Cell) → count_by is_exor (named k c out cells) ≡ exors cells
named_exors k c out [] = refl
named_exors k c out (cell ∷ []) = gate_exors out cell []
named_exors k c out (cell ∷ next ∷ cells) = gate_exors (inner k (codes "g" ++ decimal (suc c))) cell (named k (suc c) out (next ∷ cells)) ∙ ap (λ n. cond (is_exor_cell cell) 1 0 + n) (named_exors k (suc c) out (next ∷ cells))

inverters_exors : (k : ℕ) (js : List ℕ) → count_by is_exor (inverters k js) ≡ 0
inverters_exors k [] = refl
inverters_exors k (j ∷ js) = omega (arith, gate_exors (inner k (codes "i" ++ decimal (suc j))) (Inverter j) (inverters k js), inverters_exors k js)

count-append : (a b : List Gate) → count_by is_exor (a ++ b) ≡ count_by is_exor a + count_by is_exor b
count-append a b = sum_by-append (λ g. cond (is_exor g) 1 0) a b

outputs_exors : (k : ℕ) (w : Wires) (s c : ℕ) (css : List (List Product)) (sums : List Summands) (outs : List (List ℕ)) → AreSums css sums → count_by is_exor (output_gates k w s c sums outs) ≤ sum_by length css
outputs_exors k w s c [] [] outs are = omega arith
outputs_exors k w s c [] (sum ∷ sums) outs are = absurd are
outputs_exors k w s c (cs ∷ css) [] outs are = absurd are
outputs_exors k w s c (cs ∷ css) (sum ∷ sums) [] are = omega arith
outputs_exors k w s c (cs ∷ css) (sum ∷ sums) (out ∷ outs) (is, are) =
    let cells = output_cells w s sum in
    let rest = output_gates k w (s + length cells) (c + (length cells - 1)) sums outs in
    omega (
      arith,
      count-append (named k c out cells) rest,
      named_exors k c out cells,
      output_exors w s sum,
      weight_bound cs sum is,
      outputs_exors k w (s + length cells) (c + (length cells - 1)) css sums outs are,
      sum_by-cons (λ (ds : List Product). length ds) cs css,
    )

pub all_exors : (k : ℕ) (w : Wires) (s : ℕ) (css : List (List Product)) (sums : List Summands) (outs : List (List ℕ)) (js : List ℕ) → AreSums css sums → count_by is_exor (inverters k js ++ output_gates k w s 0 sums outs) ≤ sum_by length css
all_exors k w s css sums outs js are = omega (arith, count-append (inverters k js) (output_gates k w s 0 sums outs), inverters_exors k js, outputs_exors k w s 0 css sums outs are)
