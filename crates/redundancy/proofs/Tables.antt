-- What is known of a gate's pins tells what is known of its value.
use Rattle.std.proofs.Common.{◌≡◌, ℕ, suc, ◌<◌, Bool, true, false, not, cond, ◌&&◌, List, [], ◌∷◌, refl, sym, ap, ◌∙◌, arith}
use Rattle.std.specs.Prelude.{Option, Some, None, All}
use Rattle.std.specs.List.{list_any, list_all}
use Rattle.std.proofs.lemmas.Bool.{false≢true, and_parts, and_from, and_right, or_parts, or_from, not-true, not-false, not_from_false, ltb-true, lt-ltb, false_from_ne_true}
use Rattle.std.proofs.lemmas.List.Elements.{All-weaker}
use Rattle.std.proofs.lemmas.List.Folds.{list_any_none, list_any_at}
use Rattle.std.proofs.lemmas.List.Sums.{AllPass-from_list_all, list_all-from_AllPass}
use Rattle.ae_base.specs.Mask.{Set, has, where_below}
use Rattle.ae_base.specs.Cube.{Product, holds, meet}
use Rattle.ae_base.proofs.Elements.{any_weaker}
use Rattle.ae_base.proofs.Meets.{common, left_holds, right_holds, meets}
use Rattle.ae_base.proofs.Products.{holds-has, has-holds}
use Rattle.ae_base.proofs.Sets.{has-where_below, inside-has, has-inside, inside-below}
use Rattle.ae_net.specs.declared.net.Gate.{Gate}
use Rattle.ae_net.specs.Run.{table}
use Rattle.ae_net.specs.Valid.{IsRowOf}
use Rattle.redundancy.proofs.Bytes.{IsProduct-known_pins}
use Rattle.redundancy.specs.Leaves.{IsAs}
use Rattle.redundancy.specs.Simulation.{Known, is_one, is_zero, known_pins, surely_holds, surely_fails, known_table}

one_is : (k : Option Bool) → is_one k ≡ true → k ≡ Some true
one_is None h = absurd (false≢true h)
one_is (Some b) h = ap Some h

zero_is : (k : Option Bool) → is_zero k ≡ true → k ≡ Some false
zero_is None h = absurd (false≢true h)
zero_is (Some b) h = ap Some (not-true b h)

-- ---- rows

module _ (n : ℕ) (sees : ℕ → Known) (a : ℕ → Bool) (agree : (k : ℕ) → k < n → IsAs (sees k) (a k)) where
  known_one : (k : ℕ) → has (where_below n (λ k. is_one (sees k))) k ≡ true → has (where_below n a) k ≡ true
  known_one k h =
      let p = and_parts _ _ (sym (has-where_below n (λ k. is_one (sees k)) k) ∙ h) in
      has-where_below n a k ∙ and_from _ _ (p.0) (agree k (ltb-true k n (p.0)) true (one_is (sees k) (p.1)))

  known_zero : (k : ℕ) → has (where_below n (λ k. is_zero (sees k))) k ≡ true → has (where_below n a) k ≡ false
  known_zero k h =
      let p = and_parts _ _ (sym (has-where_below n (λ k. is_zero (sees k)) k) ∙ h) in
      has-where_below n a k ∙ and_right _ _ (agree k (ltb-true k n (p.0)) false (zero_is (sees k) (p.1)))

  row_holds : (row : Product) → surely_holds row (known_pins n sees) ≡ true → holds row (where_below n a) ≡ true
  row_holds row h =
      let p = and_parts _ _ h in
      has-holds row (where_below n a) (λ k m. known_one k (inside-has row.pos _ (p.0) k m), λ k m. known_zero k (inside-has row.neg _ (p.1) k m))

  row_fails : (row : Product) → surely_fails row (known_pins n sees) ≡ true → holds row (where_below n a) ≡ false
  row_fails row h =
      false_from_ne_true _ (λ e. false≢true (sym (not-true _ h) ∙ meets row (known_pins n sees) (where_below n a) e (has-holds (known_pins n sees) (where_below n a) (known_one, known_zero))))

-- ---- tables

turned : (on any : Bool) → cond on any (not any) ≡ cond any on (not on)
turned true true = refl
turned true false = refl
turned false true = refl
turned false false = refl

table_by_any : (gate : Gate) (ones : Set) (b : Bool) → list_any (λ row. holds row ones) gate.rows ≡ b → table gate ones ≡ cond b gate.on (not gate.on)
unfolding table
table_by_any gate ones b e = turned gate.on _ ∙ ap (λ v. cond v gate.on (not gate.on)) e

none_hold : (p q : Product → Bool) → ((row : Product) → p row ≡ true → q row ≡ false) → (rows : List Product) → list_all p rows ≡ true → list_any q rows ≡ false
none_hold p q h rows all = list_any_none q rows (All-weaker _ _ h rows (AllPass-from_list_all p rows all))

abbrev by_tests : Bool → Bool → Bool → Known
by_tests any all on = cond any (Some on) (cond all (Some (not on)) None)

-- what is known of a table holds of it
pub table-known : (gate : Gate) (n : ℕ) (sees : ℕ → Known) (a : ℕ → Bool) → ((k : ℕ) → k < n → IsAs (sees k) (a k)) → IsAs (known_table gate (known_pins n sees)) (table gate (where_below n a))
unfolding known_table
table-known gate n sees a agree c e =
    let pins = known_pins n sees in
    by_cases (list_any (λ row. surely_holds row pins) gate.rows) (list_all (λ row. surely_fails row pins) gate.rows)
    (λ any. any_weaker _ _ (row_holds n sees a agree) gate.rows any) (λ all. none_hold _ _ (row_fails n sees a agree) gate.rows all) e
  where
    by_cases : (any all : Bool) → (any ≡ true → list_any (λ row. holds row (where_below n a)) gate.rows ≡ true) → (all ≡ true → list_any (λ row. holds row (where_below n a)) gate.rows ≡ false) → by_tests any all gate.on ≡ Some c → table gate (where_below n a) ≡ c
    by_cases true all f g e = table_by_any gate (where_below n a) true (f refl) ∙ (let s : gate.on ≡ c = cc in s)
    by_cases false true f g e = table_by_any gate (where_below n a) false (g refl) ∙ (let s : not gate.on ≡ c = cc in s)
    by_cases false false f g e = absurd (let s : ⊥ = cc in s)

-- ---- where all pins are known

module _ (n : ℕ) (sees : ℕ → Known) (known : (k : ℕ) → k < n → (b : Bool) × (sees k ≡ Some b)) where
  -- a position that is not known to see 0 is known to see 1
  one_if_not_zero : (k : ℕ) → k < n → has (where_below n (λ k. is_zero (sees k))) k ≡ false → has (where_below n (λ k. is_one (sees k))) k ≡ true
  one_if_not_zero k l h =
      let v = known k l in
      let zero : is_zero (sees k) ≡ false = sym (ap (λ b. b && is_zero (sees k)) (lt-ltb k n l)) ∙ sym (has-where_below n (λ k. is_zero (sees k)) k) ∙ h in
      has-where_below n (λ k. is_one (sees k)) k ∙ and_from _ _ (lt-ltb k n l) (ap is_one v.1 ∙ not-false v.0 (sym (ap is_zero v.1) ∙ zero))

  zero_if_not_one : (k : ℕ) → k < n → has (where_below n (λ k. is_one (sees k))) k ≡ false → has (where_below n (λ k. is_zero (sees k))) k ≡ true
  zero_if_not_one k l h =
      let v = known k l in
      let one : is_one (sees k) ≡ false = sym (ap (λ b. b && is_one (sees k)) (lt-ltb k n l)) ∙ sym (has-where_below n (λ k. is_one (sees k)) k) ∙ h in
      has-where_below n (λ k. is_zero (sees k)) k ∙ and_from _ _ (lt-ltb k n l) (ap is_zero v.1 ∙ ap not (sym (ap is_one v.1) ∙ one))

  -- a row that does not surely fail surely holds
  row_decided : (row : Product) → IsRowOf n row → meet row (known_pins n sees) ≡ true → surely_holds row (known_pins n sees) ≡ true
  row_decided row is m =
      let pins = known_pins n sees in
      let l = holds-has row (common row pins) (left_holds row pins is.is_product m) in
      let r = holds-has pins (common row pins) (right_holds row pins (IsProduct-known_pins n sees) m) in
      and_from _ _
      (has-inside row.pos pins.pos (λ k h. one_if_not_zero k (inside-below n row.pos is.pos k h) (false_from_ne_true _ (λ z. false≢true (sym (r.1 k z) ∙ l.0 k h)))))
      (has-inside row.neg pins.neg (λ k h. zero_if_not_one k (inside-below n row.neg is.neg k h) (false_from_ne_true _ (λ z. false≢true (sym (l.1 k h) ∙ r.0 k z)))))

  row_surely_fails : (row : Product) → IsRowOf n row → surely_holds row (known_pins n sees) ≡ false → surely_fails row (known_pins n sees) ≡ true
  row_surely_fails row is h = not_from_false _ (false_from_ne_true _ (λ m. false≢true (sym h ∙ row_decided row is m)))

all_fail : (P : Product → Type 0) (p q : Product → Bool) → ((row : Product) → P row → p row ≡ false → q row ≡ true) → (rows : List Product) → All P rows → list_any p rows ≡ false → list_all q rows ≡ true
all_fail P p q h rows all none = list_all-from_AllPass q rows (λ k d l. h _ (all k d l) (false_from_ne_true _ (λ e. false≢true (sym none ∙ list_any_at p rows k d l e))))

pub table-decided : (gate : Gate) (n : ℕ) (sees : ℕ → Known) → ((k : ℕ) → k < n → (b : Bool) × (sees k ≡ Some b)) → All (IsRowOf n) gate.rows → (c : Bool) × (known_table gate (known_pins n sees) ≡ Some c)
unfolding known_table
table-decided gate n sees known rows =
    let pins = known_pins n sees in
    by_cases (list_any (λ row. surely_holds row pins) gate.rows) (list_all (λ row. surely_fails row pins) gate.rows) (all_fail (IsRowOf n) _ _ (row_surely_fails n sees known) gate.rows rows)
  where
    by_cases : (any all : Bool) → (any ≡ false → all ≡ true) → (c : Bool) × (by_tests any all gate.on ≡ Some c)
    by_cases true all h = (gate.on, refl)
    by_cases false true h = (not gate.on, refl)
    by_cases false false h = absurd (false≢true (h refl))
