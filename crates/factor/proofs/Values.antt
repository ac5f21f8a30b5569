-- What the gates of a sum show in a run without a fault.
use Rattle.std.proofs.Common.{◌≡◌, ℕ, suc, ◌+◌, Bool, true, false, not, ◌&&◌, ◌||◌, inl, inr, List, [], ◌∷◌, ◌++◌, length, refl, sym, ap, ap₂, ◌∙◌, subst, arith, eqb, eq-eqb, ne_eqb, append-nil, append_assoc, ◌≢◌, zero, ◌-◌, ◌<◌, map, length-append, add-zero, zero-add}
use Rattle.std.specs.Prelude.{slice_index, Some, None, slice_get, codes}
use Rattle.std.specs.List.{list_all, AllByRecursion, list_any, position_or_len}
use Rattle.std.proofs.Math.Bool.{and-true}
use Rattle.std.proofs.lemmas.Bool.{cases_Bool, cases_eq, false≢true, and_parts, or_cases, or_left, or_right, false_from_ne_true}
use Rattle.std.proofs.lemmas.List.Folds.{list_all-map, list_all-append}
use Rattle.ae_base.specs.Mask.{Set, differ, has, either, members}
use Rattle.ae_base.specs.Cube.{Product, IsProduct, holds}
use Rattle.ae_base.proofs.Elements.{all_at, all_from_members}
use Rattle.ae_base.proofs.Meets.{meets}
use Rattle.ae_base.proofs.Members.{members-has}
use Rattle.ae_base.proofs.Sets.{has-either}
use Rattle.ae_base.proofs.Truth.{same_truth, differ-assoc, differ-false, not_both, differ-flip}
use Rattle.ae_net.specs.Run.{value_of}
use Rattle.ae_net.proofs.Tables.{cell_value, table-inverter, table-cell}
use Rattle.ae_net.specs.declared.gates.Cell.{Cell}
use Rattle.ae_net.specs.declared.gates.Cell.TheVariants.{Inverter, And}
use Rattle.factor.specs.declared.parts.Factor.{Factor}
use Rattle.factor.specs.declared.parts.Wires.{Wires}
use Rattle.factor.specs.declared.literals.Literal.{Literal}
use Rattle.factor.specs.Cells.{Part, Parts, literal_signal, literal_signals, product_of, are_excluded, join, joins, last_of, chain_of, closing, turned_by, parts, sum_part, output_cells}
use Rattle.factor.specs.Literals.{stands}
use Rattle.factor.specs.Seen.{EachLiteral}
use Rattle.factor.specs.Sums.{Summands, has_constant, sum_value}
use Rattle.factor.specs.Sums.Summands.{end, literals, factored}
use Rattle.factor.proofs.Sizes.{literals_part, factored_part, parts-end, parts-literals, parts-factored, sum_part-is, closing_some, close_count, length-closing, length-joins, length-turned, length-factors}
use Rattle.factor.proofs.Taken.{lit, literal_value, literal_holds, holds_literals}
use Rattle.factor.proofs.Valid.{EachFactor, Wired, Ready, length-named}
use Rattle.std.specs.Fmt.{decimal}
use Rattle.std.proofs.lemmas.List.{nil_from_length}
use Rattle.ae_base.proofs.EachAt.{EachAt, EachAt-split}
use Rattle.ae_net.specs.declared.net.Gate.{Gate}
use Rattle.ae_net.specs.Names.{inner}
use Rattle.ae_net.specs.Follows.{Fits}
use Rattle.ae_net.specs.Gates.{inverter}
use Rattle.factor.specs.Factored.{inverters, named, output_gates, ends}
use Rattle.factor.proofs.Meaning.{width}
use Rattle.ae_base.proofs.Distinct.{each-append}

-- ---- gates

-- each gate of the list, the first of which has the signal s, has its value
abbrev pub EachCell : List Bool → ℕ → List Cell → Type 0
EachCell v s [] = Unit {0}
EachCell v s (cell ∷ cells) = (value_of v s ≡ cell_value v cell) × EachCell v (suc s) cells

pub EachCell-append : (v : List Bool) (s : ℕ) (a b : List Cell) → EachCell v s (a ++ b) → EachCell v s a × EachCell v (s + length a) b
EachCell-append v s [] b h = (tt, let z : s + 0 ≡ s = omega arith in subst (λ k. EachCell v k b) (sym z) h)
EachCell-append v s (c ∷ a) b (h, hs) =
    let both = EachCell-append v (suc s) a b hs in
    let z : s + suc (length a) ≡ suc s + length a = omega arith in
    ((h, both.0), subst (λ k. EachCell v k b) (sym z) both.1)

-- ---- literals

-- each literal that has a signal shows its value at the point
abbrev pub LiteralsShow : Wires → List Bool → Set → Type 0
LiteralsShow w v x = (u : Literal) → Wired w u → value_of v (literal_signal w u.plain u.input) ≡ literal_value u x

literal_sign : (w : Wires) (v : List Bool) (c : Product) (j : ℕ) (b : Bool) → IsProduct c → stands (lit j b) c ≡ true → value_of v (literal_signal w (has c.pos j) j) ≡ value_of v (literal_signal w b j)
literal_sign w v c j true product m = ap (λ p. value_of v (literal_signal w p j)) m
literal_sign w v c j false product m = ap (λ p. value_of v (literal_signal w p j)) (not_both (has c.pos j) (has c.neg j) (product j) m)

pub product_shows : (w : Wires) (v : List Bool) (x : Set) (c : Product) → LiteralsShow w v x → IsProduct c → ((u : Literal) → stands u c ≡ true → Wired w u) → list_all (λ s. value_of v s) (literal_signals w c) ≡ holds c x
unfolding literal_signals
product_shows w v x c show product wired =
    list_all-map (λ s. value_of v s) (λ j. literal_signal w (has c.pos j) j) (members (either c.pos c.neg))
    ∙ same_truth _ _
    (λ h. holds_literals c x (λ u m. sym (show u (wired u m)) ∙ sym (literal_sign w v c u.input u.plain product m) ∙ all_at (λ j. value_of v (literal_signal w (has c.pos j) j)) u.input (members (either c.pos c.neg)) (members-has (either c.pos c.neg) u.input ∙ is_member u m) h))
    (λ h. all_from_members (λ j. value_of v (literal_signal w (has c.pos j) j)) (members (either c.pos c.neg)) (λ j m. by j (sym (has-either c.pos c.neg j) ∙ sym (members-has (either c.pos c.neg) j) ∙ m) h))
  where
    is_member : (u : Literal) → stands u c ≡ true → has (either c.pos c.neg) u.input ≡ true
    is_member u m = has-either c.pos c.neg u.input ∙ elim (cases_Bool u.plain) [ inl e ↦ or_left _ _ (rw e at m) | inr e ↦ or_right _ _ (rw e at m) ]

    at : (j : ℕ) (b : Bool) → stands (lit j b) c ≡ true → holds c x ≡ true → value_of v (literal_signal w (has c.pos j) j) ≡ true
    at j b m h = literal_sign w v c j b product m ∙ show (lit j b) (wired (lit j b) m) ∙ literal_holds c x (lit j b) h m

    by : (j : ℕ) → (has c.pos j || has c.neg j) ≡ true → holds c x ≡ true → value_of v (literal_signal w (has c.pos j) j) ≡ true
    by j e h = elim (or_cases (has c.pos j) (has c.neg j) e) [ inl m ↦ at j true m h | inr m ↦ at j false m h ]

-- ---- joining

-- the EXOR of the summands' signals
abbrev pub factors_value : List Bool → List Factor → Bool
factors_value v [] = false
factors_value v (f ∷ fs) = differ (value_of v f.signal) (factors_value v fs)

-- a summand is 1 only where its direct factors are
abbrev pub Sound : List Bool → Set → List Factor → Type 0
Sound v x fs = AllByRecursion (λ f. value_of v f.signal ≡ true → holds f.literals x ≡ true) fs

factors_push : (v : List Bool) (fs : List Factor) (f : Factor) → factors_value v (fs ++ f ∷ []) ≡ differ (factors_value v fs) (value_of v f.signal)
factors_push v [] f = differ-false (value_of v f.signal)
factors_push v (e ∷ fs) f = ap (differ (value_of v e.signal)) (factors_push v fs f) ∙ sym (differ-assoc (value_of v e.signal) (factors_value v fs) (value_of v f.signal))

Sound-push : (v : List Bool) (x : Set) (fs : List Factor) (f : Factor) → Sound v x fs → (value_of v f.signal ≡ true → holds f.literals x ≡ true) → Sound v x (fs ++ f ∷ [])
Sound-push v x fs f h k = each-append (λ (g : Factor). value_of v g.signal ≡ true → holds g.literals x ≡ true) fs (f ∷ []) h (k, tt)

-- where a summand is 1 that all earlier ones exclude, these are 0
excluded_none : (v : List Bool) (x : Set) (earlier : List Factor) (f : Factor) → Sound v x earlier → are_excluded earlier f.literals ≡ true → holds f.literals x ≡ true → factors_value v earlier ≡ false
excluded_none v x [] f sound apart one = refl
excluded_none v x (e ∷ es) f (h, hs) apart one =
    let parts = and_parts _ _ apart in
    ap₂ differ (false_from_ne_true (value_of v e.signal) (λ k. false≢true (sym (ap not (meets e.literals f.literals x (h k) one)) ∙ parts.0))) (excluded_none v x es f hs parts.1 one)

or_exor : (a b : Bool) → (b ≡ true → a ≡ false) → (a || b) ≡ differ a b
or_exor true true h = absurd (false≢true (sym (h refl)))
or_exor true false h = refl
or_exor false b h = refl

join_value : (v : List Bool) (x : Set) (earlier : List Factor) (line : ℕ) (f : Factor) → Sound v x earlier → (value_of v f.signal ≡ true → holds f.literals x ≡ true) → value_of v line ≡ factors_value v earlier
    → cell_value v (join earlier line f) ≡ factors_value v (earlier ++ f ∷ [])
join_value v x earlier line f sound own e = elim (cases_Bool (are_excluded earlier f.literals)) [
  | inl k ↦ rw k (or_exor (value_of v line) (value_of v f.signal) (λ one. e ∙ excluded_none v x earlier f sound k (own one)) ∙ joined)
  | inr k ↦ rw k joined
]
  where
    joined : differ (value_of v line) (value_of v f.signal) ≡ factors_value v (earlier ++ f ∷ [])
    joined = ap (λ a. differ a (value_of v f.signal)) e ∙ sym (factors_push v earlier f)

last_next : (k n : ℕ) (line : ℕ) → last_of (suc k) k n ≡ last_of k line (suc n)
last_next k n line = elim (cases_eq n 0) [
  | inl e ↦ rw (eq-eqb n 0 e, ne_eqb (suc n) 0 (λ z. absurd (omega (arith, z)))) (omega (arith, e))
  | inr some ↦ rw (ne_eqb n 0 some, ne_eqb (suc n) 0 (λ z. absurd (omega (arith, z)))) (omega (arith, some))
]

joins_value : (v : List Bool) (x : Set) (k line : ℕ) (earlier fs : List Factor) → EachCell v k (joins k line earlier fs) → Sound v x earlier → Sound v x fs → value_of v line ≡ factors_value v earlier
    → value_of v (last_of k line (length fs)) ≡ factors_value v (earlier ++ fs)
joins_value v x k line earlier [] cells sound all e = e ∙ ap (factors_value v) (sym (append-nil earlier))
joins_value v x k line earlier (f ∷ fs) (cell, cells) sound (own, all) e =
    ap (value_of v) (sym (last_next k (length fs) line))
    ∙ joins_value v x (suc k) k (earlier ++ f ∷ []) fs cells (Sound-push v x earlier f sound own) all (cell ∙ join_value v x earlier line f sound own e)
    ∙ ap (factors_value v) (append_assoc earlier (f ∷ []) fs)

closing_value : (v : List Bool) (x : Set) (k : ℕ) (constant : Bool) (fs : List Factor) → EachCell v k (closing k constant fs).cells → Sound v x fs → value_of v (closing k constant fs).signal ≡ differ (factors_value v fs) constant
closing_value v x k true [] (cell, none) sound = cell
closing_value v x k false [] (cell, none) sound = cell
closing_value v x k constant (f ∷ fs) cells sound =
    rw (closing_some k constant (f ∷ fs) (omega arith)) (by constant (rw (closing_some k constant (f ∷ fs) (omega arith)) at cells))
  where
    chain : List Cell → Type 0
    chain cs = EachCell v k cs → value_of v (last_of k f.signal (length fs)) ≡ factors_value v (f ∷ fs)

    joined : chain (joins k f.signal (f ∷ []) fs)
    joined cs = joins_value v x k f.signal (f ∷ []) fs cs (sound.0, tt) sound.1 (sym (differ-false (value_of v f.signal)))

    by : (b : Bool) → EachCell v k (turned_by b k (chain_of k (f ∷ fs))).cells → value_of v (turned_by b k (chain_of k (f ∷ fs))).signal ≡ differ (factors_value v (f ∷ fs)) b
    by true cs =
        let both = EachCell-append v k (joins k f.signal (f ∷ []) fs) (Inverter (last_of k f.signal (length fs)) ∷ []) cs in
        both.1.0 ∙ ap not (joined both.0) ∙ differ-flip true (factors_value v (f ∷ fs))
    by false cs = joined cs ∙ sym (differ-false (factors_value v (f ∷ fs)))

-- ---- sums

-- the gates of the summands show what the summands are
pub record Shown (v : List Bool) (x : Set) (p : Parts) (s : Summands) : Type 0 where
  pub sound : Sound v x p.factors
  pub value : differ (factors_value v p.factors) (has_constant s) ≡ sum_value s x

pub sum_shows : (w : Wires) (v : List Bool) (x : Set) (k : ℕ) (s : Summands) → Shown v x (parts w k s) s → EachCell v (k + length (parts w k s).cells) (closing (k + length (parts w k s).cells) (has_constant s) (parts w k s).factors).cells
    → value_of v (sum_part w k s).signal ≡ sum_value s x
sum_shows w v x k s shown cells = ap (λ (p : Part). value_of v p.signal) (sum_part-is w k s) ∙ closing_value v x (k + length (parts w k s).cells) (has_constant s) (parts w k s).factors cells shown.sound ∙ shown.value

all_one : (v : List Bool) (signals : List ℕ) → eqb (length signals) 1 ≡ true → value_of v (slice_index signals 0) ≡ list_all (λ s. value_of v s) signals
all_one v [] h = absurd (false≢true h)
all_one v (s ∷ []) h = sym (and-true (value_of v s))
all_one v (s ∷ r ∷ ss) h = absurd (false≢true (sym (ne_eqb (suc (suc (length ss))) 1 (λ e. absurd (omega (arith, e)))) ∙ h))

product_value : (v : List Bool) (k : ℕ) (signals : List ℕ) → EachCell v k (product_of k signals).cells → value_of v (product_of k signals).signal ≡ list_all (λ s. value_of v s) signals
product_value v k signals = elim (cases_Bool (eqb (length signals) 1)) [ inl e ↦ rw e (λ cells. all_one v signals e) | inr e ↦ rw e (λ cells. cells.0) ]

all_append : (v : List Bool) (a : List ℕ) (s : ℕ) → list_all (λ t. value_of v t) (a ++ s ∷ []) ≡ (list_all (λ t. value_of v t) a && value_of v s)
all_append v a s = list_all-append (λ t. value_of v t) a (s ∷ []) ∙ ap (λ b. list_all (λ t. value_of v t) a && b) (and-true (value_of v s))

pub parts_show : (w : Wires) (v : List Bool) (x : Set) (k : ℕ) (s : Summands) → LiteralsShow w v x → EachFactor IsProduct s → EachLiteral (Wired w) s → EachCell v k (parts w k s).cells → Shown v x (parts w k s) s
parts_show w v x k (end b) show product wired cells = rw (parts-end w k b) (record { sound = tt; value = refl })
parts_show w v x k (literals ls rest) show product wired cells =
    let part = literals_part w k ls in
    let next = k + length part.cells in
    let both = EachCell-append v k part.cells (parts w next rest).cells (rw (parts-literals w k ls rest) at cells) in
    let later = parts_show w v x next rest show product.1 wired.1 both.1 in
    let own : value_of v part.signal ≡ holds ls x = product_value v k (literal_signals w ls) both.0 ∙ product_shows w v x ls show product.0 wired.0 in
    rw (parts-literals w k ls rest) (record {
      sound = ((λ one. sym own ∙ one), later.sound);
      value = differ-assoc (value_of v part.signal) (factors_value v (parts w next rest).factors) (has_constant rest) ∙ ap₂ differ own later.value;
    })
parts_show w v x k (factored ls inner rest) show product wired cells =
    let part = factored_part w k ls inner in
    let next = k + length part.cells in
    let both = EachCell-append v k part.cells (parts w next rest).cells (rw (parts-factored w k ls inner rest) at cells) in
    let own = EachCell-append v k (sum_part w k inner).cells (And (literal_signals w ls ++ (sum_part w k inner).signal ∷ []) ∷ []) both.0 in
    let deeper = EachCell-append v k (parts w k inner).cells _ (rw (sum_part-is w k inner) at own.0) in
    let shown = parts_show w v x k inner show product.1 wired.1 deeper.0 in
    let line : value_of v (sum_part w k inner).signal ≡ sum_value inner x = sum_shows w v x k inner shown deeper.1 in
    let later = parts_show w v x next rest show product.2 wired.2 both.1 in
    let value : value_of v part.signal ≡ (holds ls x && sum_value inner x) =
    own.1.0 ∙ all_append v (literal_signals w ls) (sum_part w k inner).signal ∙ ap₂ (λ a b. a && b) (product_shows w v x ls show product.0 wired.0) line in
    rw (parts-factored w k ls inner rest) (record {
      sound = ((λ one. (and_parts _ _ (sym value ∙ one)).0), later.sound);
      value = differ-assoc (value_of v part.signal) (factors_value v (parts w next rest).factors) (has_constant rest) ∙ ap₂ differ value later.value;
    })

-- so the gates of a sum show its value
pub part_shows : (w : Wires) (v : List Bool) (x : Set) (k : ℕ) (s : Summands) → LiteralsShow w v x → Ready w s → EachCell v k (sum_part w k s).cells → value_of v (sum_part w k s).signal ≡ sum_value s x
part_shows w v x k s show ready cells =
    let both = EachCell-append v k (parts w k s).cells _ (rw (sum_part-is w k s) at cells) in
    sum_shows w v x k s (parts_show w v x k s show ready.products ready.wired both.0) both.1

-- ---- What the factored network shows at its ports.

-- ---- the result of a sum is its last gate

closing_last : (k : ℕ) (constant : Bool) (fs : List Factor) → 0 < length (closing k constant fs).cells → (closing k constant fs).signal ≡ k + (length (closing k constant fs).cells - 1)
closing_last k constant [] l = omega arith
closing_last k constant (f ∷ fs) l =
    rw (closing_some k constant (f ∷ fs) (omega arith)) (by constant (rw (closing_some k constant (f ∷ fs) (omega arith)) at l))
  where
    by : (b : Bool) → 0 < length (turned_by b k (chain_of k (f ∷ fs))).cells → (turned_by b k (chain_of k (f ∷ fs))).signal ≡ k + (length (turned_by b k (chain_of k (f ∷ fs))).cells - 1)
    by true m = omega (arith, length-turned true k (chain_of k (f ∷ fs)))
    by false m =
        let some : length fs ≢ 0 = λ e. absurd (omega (arith, m, e, length-joins k f.signal (f ∷ []) fs)) in
        rw (ne_eqb (length fs) 0 some) (omega (arith, some, length-joins k f.signal (f ∷ []) fs))

product_last : (k : ℕ) (signals : List ℕ) → 0 < length (product_of k signals).cells → (product_of k signals).signal ≡ k + (length (product_of k signals).cells - 1)
product_last k signals = elim (cases_Bool (eqb (length signals) 1)) [ inl e ↦ rw e (λ l. absurd (omega (arith, l))) | inr e ↦ rw e (λ l. omega arith) ]

-- a sum that needs no closing gate
single_sum : (w : Wires) (k m : ℕ) (s : Summands) → close_count (width s) (has_constant s) ≡ 0 → 0 < length (parts w k s).cells → (closing m (has_constant s) (parts w k s).factors).signal ≡ k + (length (parts w k s).cells - 1)
single_sum w k m (end b) h l = absurd (omega (arith, h))
single_sum w k m (literals ls (end true)) h l = absurd (omega (arith, h))
single_sum w k m (literals ls (end false)) h l =
    rw (parts-literals w k ls (end false), parts-end w (k + length (literals_part w k ls).cells) false, append-nil) (product_last k (literal_signals w ls) (rw (parts-literals w k ls (end false), parts-end w (k + length (literals_part w k ls).cells) false, append-nil) at l))
single_sum w k m (literals ls (literals ms r)) h l = absurd (omega (arith, h))
single_sum w k m (literals ls (factored ms i r)) h l = absurd (omega (arith, h))
single_sum w k m (factored ls inner (end true)) h l = absurd (omega (arith, h))
single_sum w k m (factored ls inner (end false)) h l =
    rw (parts-factored w k ls inner (end false), parts-end w (k + length (factored_part w k ls inner).cells) false, append-nil) (omega (arith, length-append (sum_part w k inner).cells (And (literal_signals w ls ++ (sum_part w k inner).signal ∷ []) ∷ [])))
single_sum w k m (factored ls inner (literals ms r)) h l = absurd (omega (arith, h))
single_sum w k m (factored ls inner (factored ms i r)) h l = absurd (omega (arith, h))

sum_last : (w : Wires) (k : ℕ) (s : Summands) → 0 < length (sum_part w k s).cells → (sum_part w k s).signal ≡ k + (length (sum_part w k s).cells - 1)
sum_last w k s l =
    let p : Parts = parts w k s in
    let end_part : Part = closing (k + length p.cells) (has_constant s) p.factors in
    let signal : (sum_part w k s).signal ≡ end_part.signal = ap (λ (q : Part). q.signal) (sum_part-is w k s) in
    let len : length (sum_part w k s).cells ≡ length p.cells + length end_part.cells = ap (λ (q : Part). length q.cells) (sum_part-is w k s) ∙ length-append p.cells end_part.cells in
    elim (cases_eq (length end_part.cells) 0) [
      | inl e ↦
          let none : close_count (width s) (has_constant s) ≡ 0 = sym (length-closing (k + length p.cells) (has_constant s) p.factors ∙ ap (λ n. close_count n (has_constant s)) (length-factors w k s)) ∙ e in
          signal ∙ single_sum w k (k + length p.cells) s none (omega (arith, l, len, e)) ∙ omega (arith, len, e)
      | inr some ↦ omega (arith, signal, len, some, closing_last (k + length p.cells) (has_constant s) p.factors (omega (arith, some)))
    ]

-- ---- the gates of an output

pub output_shows : (w : Wires) (v : List Bool) (x : Set) (s : ℕ) (sum : Summands) → LiteralsShow w v x → Ready w sum → EachCell v s (output_cells w s sum) → value_of v (s + (length (output_cells w s sum) - 1)) ≡ sum_value sum x
unfolding output_cells
output_shows w v x s sum show ready = elim (cases_eq (length (sum_part w s sum).cells) 0) [
  | inl e ↦ rw (eq-eqb (length (sum_part w s sum).cells) 0 e) (λ cells. buffered e cells.0)
  | inr some ↦ rw (ne_eqb (length (sum_part w s sum).cells) 0 some) (λ cells. ap (value_of v) (sym (sum_last w s sum (omega (arith, some)))) ∙ part_shows w v x s sum show ready cells)
]
  where
    buffered : length (sum_part w s sum).cells ≡ 0 → value_of v s ≡ value_of v (sum_part w s sum).signal → value_of v (s + (1 - 1)) ≡ sum_value sum x
    buffered e cell =
        let none : (sum_part w s sum).cells ≡ [] = nil_from_length (sum_part w s sum).cells e in
        let z : s + (1 - 1) ≡ s = omega arith in
        ap (value_of v) z ∙ cell ∙ part_shows w v x s sum show ready (rw none tt)

-- ---- named gates

pub named_cells : (v : List Bool) (m i k c : ℕ) (out : List ℕ) (cells : List Cell) → EachAt (Fits None v m) i (named k c out cells) → EachCell v (m + i) cells
unfolding EachAt
named_cells v m i k c out [] h = tt
named_cells v m i k c out (cell ∷ []) (h, _) = (h ∙ table-cell v i out cell, tt)
named_cells v m i k c out (cell ∷ next ∷ cells) (h, hs) =
    let z : m + suc i ≡ suc (m + i) = omega arith in
    (h ∙ table-cell v i (inner k (codes "g" ++ decimal (suc c))) cell, subst (λ s. EachCell v s (next ∷ cells)) z (named_cells v m (suc i) k (suc c) out (next ∷ cells) hs))

-- ---- all outputs

pub port_shows : (k : ℕ) (w : Wires) (v : List Bool) (x : Set) (i c : ℕ) (sums : List Summands) (outs : List (List ℕ)) → EachAt (Fits None v w.inputs) i (output_gates k w (w.inputs + i) c sums outs) → length sums ≡ length outs
    → LiteralsShow w v x → AllByRecursion (Ready w) sums → (o : ℕ) (sum : Summands) → slice_get sums o ≡ Some sum → value_of v (slice_index (ends w (w.inputs + i) sums) o) ≡ sum_value sum x
port_shows k w v x i c [] outs h same show ready o sum there = cc
port_shows k w v x i c (s ∷ ss) [] h same show ready o sum there = absurd (omega (arith, same))
port_shows k w v x i c (s ∷ ss) (out ∷ outs) h same show (ready, more) zero sum there =
    let e : s ≡ sum = cc in
    let both = EachAt-split (Fits None v w.inputs) i (named k c out (output_cells w (w.inputs + i) s)) _ h in
    output_shows w v x (w.inputs + i) s show ready (named_cells v w.inputs i k c out (output_cells w (w.inputs + i) s) both.0) ∙ ap (λ t. sum_value t x) e
port_shows k w v x i c (s ∷ ss) (out ∷ outs) h same show (ready, more) (suc o) sum there =
    let cells = output_cells w (w.inputs + i) s in
    let both = EachAt-split (Fits None v w.inputs) i (named k c out cells) _ h in
    let z : w.inputs + i + length cells ≡ w.inputs + (i + length cells) = omega arith in
    let y : i + length (named k c out cells) ≡ i + length cells = ap (λ n. i + n) (length-named k c out cells) in
    rw z (port_shows k w v x (i + length cells) (c + (length cells - 1)) ss outs
    (subst (λ p. EachAt (Fits None v w.inputs) (i + length cells) (output_gates k w p (c + (length cells - 1)) ss outs)) z (subst (λ p. EachAt (Fits None v w.inputs) p (output_gates k w (w.inputs + i + length cells) (c + (length cells - 1)) ss outs)) y both.1))
    (omega (arith, same)) show more o sum there)

-- ---- the inverters

inverter_at : (P : ℕ → Gate → Type 0) (i : ℕ) (g : ℕ → Gate) (xs : List ℕ) → EachAt P i (map g xs) → (j : ℕ) → list_any (λ y. eqb y j) xs ≡ true → P (i + position_or_len (λ y. eqb y j) xs) (g j)
unfolding EachAt
inverter_at P i g [] h j there = absurd (false≢true there)
inverter_at P i g (y ∷ ys) (h, hs) j there = elim (cases_eq y j) [
  | inl e ↦ rw (eq-eqb y j e, add-zero i, ← e) h
  | inr other ↦
      let z : i + (1 + position_or_len (λ u. eqb u j) ys) ≡ suc i + position_or_len (λ u. eqb u j) ys = omega arith in
      rw (ne_eqb y j other, z) (inverter_at P (suc i) g ys hs j (rw (ne_eqb y j other) at there))
]

pub literals_show : (k : ℕ) (w : Wires) (v : List Bool) (x : Set) → ((j : ℕ) → j < w.inputs → value_of v j ≡ has x j) → EachAt (Fits None v w.inputs) 0 (inverters k w.turned) → LiteralsShow w v x
unfolding literal_signal
literals_show k w v x inputs inverted u wired = elim (cases_Bool u.plain) [
  | inl e ↦ rw e (inputs u.input wired.0)
  | inr e ↦
      let fits = inverter_at (Fits None v w.inputs) 0 (λ j. inverter (inner k (codes "i" ++ decimal (suc j))) j) w.turned inverted u.input (wired.1 e) in
      rw e (rw (zero-add (position_or_len (λ i. eqb i u.input) w.turned)) at fits ∙ table-inverter None v (position_or_len (λ i. eqb i u.input) w.turned) (inner k (codes "i" ++ decimal (suc u.input))) u.input ∙ ap not (inputs u.input wired.0))
]
