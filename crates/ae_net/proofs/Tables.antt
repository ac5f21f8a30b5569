-- What each kind of gate computes, with a fault or without.
use Rattle.std.proofs.Common.{◌≡◌, ℕ, zero, suc, ◌+◌, ◌<◌, Bool, true, false, not, ◌&&◌, ◌||◌, inl, inr, List, [], ◌∷◌, length, refl, sym, ap, ap₂, ◌∙◌, arith}
use Rattle.std.specs.Prelude.{Option, None, slice_index}
use Rattle.std.specs.List.{list_all}
use Rattle.std.proofs.lemmas.Bool.{and_parts, and_from, cases_Bool, false≢true, lt-ltb, ltb-true}
use Rattle.ae_base.specs.Mask.{Set, differ, has, where_below}
use Rattle.ae_base.proofs.Sets.{has-first, has-where_below, inside-has, has-inside}
use Rattle.ae_base.proofs.Truth.{same_truth, or-false}
use Rattle.ae_net.specs.declared.net.Place.TheVariants.{Pin}
use Rattle.ae_net.specs.declared.net.Fault.{Fault}
use Rattle.ae_net.specs.Run.{table, seen, value_of, ones_seen}
use Rattle.ae_net.specs.declared.gates.Cell.{Cell}
use Rattle.ae_net.specs.declared.gates.Cell.TheVariants.{Zero, One, Inverter, Buffer, And, Exor, Or}
use Rattle.ae_net.specs.Gates.{gate_of, inverter, buffer, exor, and_gate}
use Rattle.ae_net.proofs.Rows.{whole_row, plain_row, complemented_row, one_of_each_row, full_row}

-- what pin q of the gate in place i sees
abbrev pub sees : Option Fault → List Bool → ℕ → ℕ → ℕ → Bool
sees fault w i q s = seen fault (Pin i q) (value_of w s)

pub table-inverter : (fault : Option Fault) (w : List Bool) (i : ℕ) (out : List ℕ) (a : ℕ) → table (inverter out a) (ones_seen fault w i (inverter out a)) ≡ not (sees fault w i 0 a)
unfolding table
table-inverter fault w i out a = or-false _ ∙ complemented_row 0 (ones_seen fault w i (inverter out a)) ∙ ap not (has-where_below 1 (λ k. sees fault w i k (slice_index (a ∷ []) k)) 0)

pub table-buffer : (fault : Option Fault) (w : List Bool) (i : ℕ) (out : List ℕ) (a : ℕ) → table (buffer out a) (ones_seen fault w i (buffer out a)) ≡ sees fault w i 0 a
unfolding table
table-buffer fault w i out a = or-false _ ∙ plain_row 0 (ones_seen fault w i (buffer out a)) ∙ has-where_below 1 (λ k. sees fault w i k (slice_index (a ∷ []) k)) 0

pub table-exor : (fault : Option Fault) (w : List Bool) (i : ℕ) (out : List ℕ) (a b : ℕ) → table (exor out a b) (ones_seen fault w i (exor out a b)) ≡ differ (sees fault w i 0 a) (sees fault w i 1 b)
unfolding table
table-exor fault w i out a b =
    let ones : Set = ones_seen fault w i (exor out a b) in
    let p = λ (k : ℕ). sees fault w i k (slice_index (a ∷ b ∷ []) k) in
    ap₂ (λ l r. l || (r || false)) (one_of_each_row 0 1 ones) (one_of_each_row 1 0 ones)
    ∙ either_way (has ones 0) (has ones 1)
    ∙ ap₂ differ (has-where_below 2 p 0) (has-where_below 2 p 1)
  where
    either_way : (c d : Bool) → ((c && not d) || ((d && not c) || false)) ≡ differ c d
    either_way true true = refl
    either_way true false = refl
    either_way false true = refl
    either_way false false = refl

-- ---- AND gates

-- each pin sees 1, the first of them being pin q
unfoldable pub all_see : Option Fault → List Bool → ℕ → ℕ → List ℕ → Bool
all_see fault w i q [] = true
all_see fault w i q (s ∷ ss) = sees fault w i q s && all_see fault w i (suc q) ss

pub all_from : (fault : Option Fault) (w : List Bool) (i q : ℕ) (ss : List ℕ) → all_see fault w i q ss ≡ true → (k : ℕ) → k < length ss → sees fault w i (q + k) (slice_index ss k) ≡ true
unfolding all_see
all_from fault w i q [] h k l = absurd (omega (arith, l))
all_from fault w i q (s ∷ ss) h zero l = let z : q + 0 ≡ q = omega arith in rw z ((and_parts _ _ h).0)
all_from fault w i q (s ∷ ss) h (suc k) l = let z : q + suc k ≡ suc q + k = omega arith in rw z (all_from fault w i (suc q) ss ((and_parts _ _ h).1) k (omega (arith, l)))

pub all_to : (fault : Option Fault) (w : List Bool) (i q : ℕ) (ss : List ℕ) → ((k : ℕ) → k < length ss → sees fault w i (q + k) (slice_index ss k) ≡ true) → all_see fault w i q ss ≡ true
unfolding all_see
all_to fault w i q [] h = refl
all_to fault w i q (s ∷ ss) h =
    and_from _ _ (let z : q + 0 ≡ q = omega arith in rw z at (h 0 (omega arith)))
    (all_to fault w i (suc q) ss (λ k l. let z : q + suc k ≡ suc q + k = omega arith in rw z at (h (suc k) (omega (arith, l)))))

pub table-and : (fault : Option Fault) (w : List Bool) (i : ℕ) (out pins : List ℕ) → table (and_gate out pins) (ones_seen fault w i (and_gate out pins)) ≡ all_see fault w i 0 pins
unfolding table
table-and fault w i out pins =
    let p = λ (k : ℕ). sees fault w i k (slice_index pins k) in
    let ones : Set = where_below (length pins) p in
    or-false _
    ∙ full_row (length pins) ones
    ∙ same_truth _ _
    (λ h. all_to fault w i 0 pins (λ k l. let z : 0 + k ≡ k = omega arith in rw z ((and_parts _ _ (sym (has-where_below (length pins) p k) ∙ inside-has _ _ h k (has-first (length pins) k ∙ lt-ltb k (length pins) l))).1)))
    (λ h. has-inside _ _ (λ k m. has-where_below (length pins) p k ∙ and_from _ _ (sym (has-first (length pins) k) ∙ m) (let z : 0 + k ≡ k = omega arith in rw z at (all_from fault w i 0 pins h k (ltb-true k (length pins) (sym (has-first (length pins) k) ∙ m))))))

-- without a fault
pub all_see-none : (w : List Bool) (i q : ℕ) (ss : List ℕ) → all_see None w i q ss ≡ list_all (λ s. value_of w s) ss
unfolding all_see
all_see-none w i q [] = refl
all_see-none w i q (s ∷ ss) = ap (λ b. value_of w s && b) (all_see-none w i (suc q) ss)

-- one pin that sees 0
pub all_see-false : (fault : Option Fault) (w : List Bool) (i : ℕ) (ss : List ℕ) (k : ℕ) → k < length ss → sees fault w i k (slice_index ss k) ≡ false → all_see fault w i 0 ss ≡ false
all_see-false fault w i ss k l h = elim (cases_Bool (all_see fault w i 0 ss)) [ inl all ↦ let z : 0 + k ≡ k = omega arith in absurd (false≢true (sym h ∙ (rw z at (all_from fault w i 0 ss all k l)))) | inr e ↦ e ]

-- ---- gates by what they compute, without a fault

table-or : (w : List Bool) (i : ℕ) (out : List ℕ) (a b : ℕ) → table (gate_of out (Or a b)) (ones_seen None w i (gate_of out (Or a b))) ≡ (value_of w a || value_of w b)
unfolding table
table-or w i out a b =
    let ones : Set = ones_seen None w i (gate_of out (Or a b)) in
    let p = λ (k : ℕ). value_of w (slice_index (a ∷ b ∷ []) k) in
    ap₂ (λ l r. l || (r || false)) (plain_row 0 ones) (plain_row 1 ones)
    ∙ ap (λ r. has ones 0 || r) (or-false (has ones 1))
    ∙ ap₂ (λ l r. l || r) (has-where_below 2 p 0) (has-where_below 2 p 1)

table-one : (w : List Bool) (i : ℕ) (out : List ℕ) → table (gate_of out One) (ones_seen None w i (gate_of out One)) ≡ true
unfolding table
table-one w i out = or-false _ ∙ whole_row (ones_seen None w i (gate_of out One))

table-zero : (w : List Bool) (i : ℕ) (out : List ℕ) → table (gate_of out Zero) (ones_seen None w i (gate_of out Zero)) ≡ false
unfolding table
table-zero w i out = refl

-- the value of a gate where the signals have these values
abbrev pub cell_value : List Bool → Cell → Bool
cell_value w Zero = false
cell_value w One = true
cell_value w (Inverter a) = not (value_of w a)
cell_value w (Buffer a) = value_of w a
cell_value w (And pins) = list_all (λ s. value_of w s) pins
cell_value w (Exor a b) = differ (value_of w a) (value_of w b)
cell_value w (Or a b) = value_of w a || value_of w b

pub table-cell : (w : List Bool) (i : ℕ) (out : List ℕ) (cell : Cell) → table (gate_of out cell) (ones_seen None w i (gate_of out cell)) ≡ cell_value w cell
table-cell w i out Zero = table-zero w i out
table-cell w i out One = table-one w i out
table-cell w i out (Inverter a) = table-inverter None w i out a
table-cell w i out (Buffer a) = table-buffer None w i out a
table-cell w i out (And pins) = table-and None w i out pins ∙ all_see-none w i 0 pins
table-cell w i out (Exor a b) = table-exor None w i out a b
table-cell w i out (Or a b) = table-or w i out a b
