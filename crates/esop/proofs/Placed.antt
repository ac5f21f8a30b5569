-- A cube put in its place in an ordered list of cubes.
use Rattle.std.proofs.Common.{◌≡◌, ◌<◌, ◌+◌, ◌∙◌, ℕ, suc, Bool, true, false, cond, ◌||◌, List, [], ◌∷◌, length, refl, ap, subst, arith, ◌%◌, zero, get_or, sym, inl, inr, eqb, ltb, ap₂}
use Rattle.std.specs.Prelude.{AllPairs, insert, remove, count_by}
use Rattle.std.specs.List.{list_any, AllByRecursion, prefix_len}
use Rattle.std.specs.List.Sorted.{IsPermutation, IsSorted}
use Rattle.std.specs.Cmp.{IsStrictWeakOrder}
use Rattle.std.specs.Ordering.{is_lt}
use Rattle.std.proofs.lemmas.List.Elements.{All-from_recursion, recursion_from_All}
use Rattle.std.proofs.lemmas.List.Kept.{AllPairs-cons}
use Rattle.std.proofs.lemmas.List.Quantifiers.{all_pairs_remove}
use Rattle.std.proofs.lemmas.List.Sorted.{IsPermutation-cons, IsPermutation-insert, IsPermutation-refl, IsPermutation-trans, ranks_by, sorted_far}
use Rattle.ae_base.specs.Cube.{Product, holds, whole, distance}
use Rattle.ae_base.specs.Text.{cmp_text}
use Rattle.ae_base.proofs.Texts.{cmp_text_total}
use Rattle.esop.specs.Order.{placed, in_order}
use Rattle.ae_base.proofs.Truth.{or-front, differ-front, differ-assoc}
use Rattle.std.proofs.lemmas.Bool.{or_left, or_right, cases_Bool}
use Rattle.std.proofs.lemmas.List.Sums.{sum_by-cons}
use Rattle.ae_base.specs.Mask.{Set, differ}
use Rattle.esop.specs.Esop.{esop_value}
use Rattle.esop.specs.Settled.{cube_at, others}
use Rattle.ae_base.proofs.Exor.{odd-suc}
use Rattle.std.proofs.lemmas.List.{get_or_default}
use Rattle.std.proofs.lemmas.List.Folds.{list_any_at, list_any_none}
use Rattle.esop.specs.Rewriting.{is_near}
use Rattle.esop.proofs.Thirds.{distance_back}
use Rattle.std.proofs.lemmas.List.Edits.{length-remove, get_or-remove_below}
use Rattle.ae_base.proofs.Distinct.{each_weaker}

-- the test by which a cube is placed
abbrev pub precedes : Product → Product → Bool
precedes c d = is_lt (cmp_text d c)

pub length-placed : (c : Product) (ds : List Product) → length (placed c ds) ≡ suc (length ds)
length-placed c [] = refl
length-placed c (d ∷ ds) = elim (cases_Bool (precedes c d)) [ inl e ↦ rw e (ap suc (length-placed c ds)) | inr e ↦ rw e refl ]

pub any-placed : (q : Product → Bool) (c : Product) (ds : List Product) → list_any q (placed c ds) ≡ (q c || list_any q ds)
any-placed q c [] = refl
any-placed q c (d ∷ ds) = elim (cases_Bool (precedes c d)) [ inl e ↦ rw e (ap (λ b. q d || b) (any-placed q c ds) ∙ or-front (q d) (q c) (list_any q ds)) | inr e ↦ rw e refl ]

pub each_placed : (P : Product → Type 0) (c : Product) (ds : List Product) → P c → AllByRecursion P ds → AllByRecursion P (placed c ds)
each_placed P c [] p h = (p, tt)
each_placed P c (d ∷ ds) p (h, hs) = elim (cases_Bool (precedes c d)) [ inl e ↦ rw e (h, each_placed P c ds p hs) | inr e ↦ rw e (p, (h, hs)) ]

pub insert_is : (c : Product) (ds : List Product) (k : ℕ) → k ≡ prefix_len (precedes c) ds → insert ds k c ≡ placed c ds
insert_is c [] k e = rw e refl
insert_is c (d ∷ ds) k e =
    let one : 1 + prefix_len (precedes c) ds ≡ suc (prefix_len (precedes c) ds) = omega arith in
    rw e (elim (cases_Bool (precedes c d)) [ inl b ↦ rw (b, one) (ap (λ xs. d ∷ xs) (insert_is c ds (prefix_len (precedes c) ds) refl)) | inr b ↦ rw b refl ])

-- ---- the list stays in order

-- the second cube does not come before the first
abbrev pub NotBefore : Product → Product → Type 0
NotBefore c d = precedes c d ≡ false

orders : IsStrictWeakOrder (λ d c. is_lt (cmp_text d c))
orders = ranks_by cmp_text_total (λ c. c)

pub all_pairs : (cs : List Product) → IsSorted cmp_text cs → AllPairs NotBefore cs
all_pairs cs h i j d lt within = sorted_far (λ d c. is_lt (cmp_text d c)) orders cs h i j d (omega (arith, lt)) within

from_pairs : (cs : List Product) → AllPairs NotBefore cs → IsSorted cmp_text cs
from_pairs cs h k d low high = h k (k + 1) d (omega arith) high

later_cubes : (c d : Product) (ds : List Product) → NotBefore c d → AllByRecursion (NotBefore d) ds → AllByRecursion (NotBefore c) ds
later_cubes c d ds l h = each_weaker (NotBefore d) (NotBefore c) (λ e k. orders.chain e d c k l) ds h

pairs_placed : (c : Product) (ds : List Product) → AllPairs NotBefore ds → AllPairs NotBefore (placed c ds)
pairs_placed c [] order = λ i j d l k. absurd (omega (arith, k, l))
pairs_placed c (d ∷ ds) order = by (precedes c d) refl (pairs_placed c ds (λ i j e l k. order (suc i) (suc j) e (omega (arith, l)) (omega (arith, k))))
  where
    above : AllByRecursion (NotBefore d) ds
    above = recursion_from_All (NotBefore d) ds (λ k e l. order 0 (suc k) e (omega arith) (omega (arith, l)))

    by : (b : Bool) → precedes c d ≡ b → AllPairs NotBefore (placed c ds) → AllPairs NotBefore (cond b (d ∷ placed c ds) (c ∷ d ∷ ds))
    by true e h = AllPairs-cons NotBefore d (placed c ds) (All-from_recursion (NotBefore d) (placed c ds) (each_placed (NotBefore d) c ds (orders.one_way d c e) above)) h
    by false e h = AllPairs-cons NotBefore c (d ∷ ds) (All-from_recursion (NotBefore c) (d ∷ ds) (e, later_cubes c d ds e above)) order

pub sorted_placed : (c : Product) (ds : List Product) → IsSorted cmp_text ds → IsSorted cmp_text (placed c ds)
sorted_placed c ds h = from_pairs (placed c ds) (pairs_placed c ds (all_pairs ds h))

pub sorted_removed : (cs : List Product) (i : ℕ) → i < length cs → IsSorted cmp_text cs → IsSorted cmp_text (remove cs i)
sorted_removed cs i l h = from_pairs (remove cs i) (all_pairs_remove NotBefore cs i l (all_pairs cs h))

pub sorted_in_order : (cs : List Product) → IsSorted cmp_text (in_order cs)
sorted_in_order [] = λ k d low high. absurd (omega (arith, high))
sorted_in_order (c ∷ cs) = sorted_placed c (in_order cs) (sorted_in_order cs)

pub same_cubes : (cs : List Product) → IsPermutation cs (in_order cs)
same_cubes [] = IsPermutation-refl []
same_cubes (c ∷ cs) =
    let ds = in_order cs in
    IsPermutation-trans (c ∷ cs) (c ∷ ds) (placed c ds) (IsPermutation-cons c cs ds (same_cubes cs))
    (subst (IsPermutation (c ∷ ds)) (insert_is c ds (prefix_len (precedes c) ds) refl) (IsPermutation-insert ds (prefix_len (precedes c) ds) c))

-- ---- The value of a list of cubes, and lists without some of their cubes.

pub value-none : (x : Set) → esop_value [] x ≡ false
unfolding esop_value
value-none x = refl

pub value-cons : (c : Product) (cs : List Product) (x : Set) → esop_value (c ∷ cs) x ≡ differ (holds c x) (esop_value cs x)
unfolding esop_value
value-cons c cs x = ap (λ n. eqb (n % 2) 1) (sum_by-cons (λ d. cond (holds d x) 1 0) c cs) ∙ by (holds c x)
  where
    by : (b : Bool) → eqb ((cond b 1 0 + count_by (λ d. holds d x) cs) % 2) 1 ≡ differ b (eqb (count_by (λ d. holds d x) cs % 2) 1)
    by true = odd-suc (count_by (λ d. holds d x) cs)
    by false = let z : 0 + count_by (λ d. holds d x) cs ≡ count_by (λ d. holds d x) cs = omega arith in rw z refl

pub value-placed : (c : Product) (ds : List Product) (x : Set) → esop_value (placed c ds) x ≡ differ (holds c x) (esop_value ds x)
value-placed c [] x = value-cons c [] x
value-placed c (d ∷ ds) x = elim (cases_Bool (precedes c d)) [
  | inl e ↦ rw e (value-cons d (placed c ds) x ∙ ap (differ (holds d x)) (value-placed c ds x) ∙ differ-front (holds d x) (holds c x) (esop_value ds x) ∙ ap (differ (holds c x)) (sym (value-cons d ds x)))
  | inr e ↦ rw e (value-cons c (d ∷ ds) x)
]

pub value-in_order : (cs : List Product) (x : Set) → esop_value (in_order cs) x ≡ esop_value cs x
value-in_order [] x = refl
value-in_order (c ∷ cs) x = value-placed c (in_order cs) x ∙ ap (differ (holds c x)) (value-in_order cs x) ∙ sym (value-cons c cs x)

-- ---- a list without a cube

value-removed : (cs : List Product) (i : ℕ) (x : Set) → i < length cs → esop_value cs x ≡ differ (holds (cube_at cs i) x) (esop_value (remove cs i) x)
value-removed [] i x l = absurd (omega (arith, l))
value-removed (c ∷ cs) zero x l = value-cons c cs x
value-removed (c ∷ cs) (suc i) x l =
    value-cons c cs x ∙ ap (differ (holds c x)) (value-removed cs i x (omega (arith, l)))
    ∙ differ-front (holds c x) (holds (cube_at cs i) x) (esop_value (remove cs i) x)
    ∙ ap (differ (holds (cube_at cs i) x)) (sym (value-cons c (remove cs i) x))

pub length-removed : (cs : List Product) (i : ℕ) → i < length cs → suc (length (remove cs i)) ≡ length cs
length-removed cs i l = omega (arith, length-remove cs i l)

each_removed : (P : Product → Type 0) (cs : List Product) (i : ℕ) → AllByRecursion P cs → AllByRecursion P (remove cs i)
each_removed P [] zero h = tt
each_removed P [] (suc i) h = tt
each_removed P (c ∷ cs) zero (h, hs) = hs
each_removed P (c ∷ cs) (suc i) (h, hs) = (h, each_removed P cs i hs)

pub each_at : (P : Product → Type 0) (cs : List Product) (i : ℕ) (d : Product) → AllByRecursion P cs → i < length cs → P (get_or cs i d)
each_at P cs i d h l = All-from_recursion P cs h i d l

-- ---- a list without two cubes

module _ (cs : List Product) (i j : ℕ) (order : i < j) (within : j < length cs) where
  pub length-others : suc (suc (length (others cs i j))) ≡ length cs
  length-others =
      let one : suc (length (remove cs j)) ≡ length cs = length-removed cs j within in
      ap suc (length-removed (remove cs j) i (omega (arith, one))) ∙ one

  pub value-others : (x : Set) → esop_value cs x ≡ differ (differ (holds (cube_at cs i) x) (holds (cube_at cs j) x)) (esop_value (others cs i j) x)
  value-others x =
      let one : suc (length (remove cs j)) ≡ length cs = length-removed cs j within in
      let a = holds (cube_at cs i) x in
      let b = holds (cube_at cs j) x in
      let rest = esop_value (others cs i j) x in
      value-removed cs j x within
      ∙ ap (differ b) (value-removed (remove cs j) i x (omega (arith, one)) ∙ ap (λ c. differ (holds c x) rest) (get_or-remove_below cs j whole i order within))
      ∙ differ-front b a rest ∙ sym (differ-assoc a b rest)

  pub each_other : (P : Product → Type 0) → AllByRecursion P cs → AllByRecursion P (others cs i j)
  each_other P h = each_removed P (remove cs j) i (each_removed P cs j h)

-- ---- Lists with two cubes at a distance below 2.

-- some two cubes are at a distance below 2
abbrev pub close : List Product → Bool
close [] = false
close (c ∷ cs) = is_near cs c || close cs

pub close_at : (cs : List Product) (i j : ℕ) → i < j → j < length cs → ltb (distance (cube_at cs i) (cube_at cs j)) 2 ≡ true → close cs ≡ true
close_at [] i j order within h = absurd (omega (arith, within))
close_at (c ∷ cs) i zero order within h = absurd (omega (arith, order))
close_at (c ∷ cs) zero (suc j) order within h = or_left (is_near cs c) (close cs) (list_any_at (λ d. ltb (distance c d) 2) cs j whole (omega (arith, within)) h)
close_at (c ∷ cs) (suc i) (suc j) order within h = or_right (is_near cs c) (close cs) (close_at cs i j (omega (arith, order)) (omega (arith, within)) h)

both_none : (a b : Bool) → a ≡ false → b ≡ false → (a || b) ≡ false
both_none a b h k = rw (h, k) refl

pub not_close : (cs : List Product) → ((i j : ℕ) → i < j → j < length cs → ltb (distance (cube_at cs i) (cube_at cs j)) 2 ≡ false) → close cs ≡ false
not_close [] none = refl
not_close (c ∷ cs) none =
    both_none (is_near cs c) (close cs) (list_any_none (λ d. ltb (distance c d) 2) cs (λ k d l. rw (get_or_default cs k d whole l) (none 0 (suc k) (omega arith) (omega (arith, l)))))
    (not_close cs (λ i j order within. none (suc i) (suc j) (omega (arith, order)) (omega (arith, within))))

shuffle : (a b c d : Bool) → ((a || b) || (c || d)) ≡ ((a || c) || (b || d))
shuffle a b c d = grind arith

pub close-placed : (c : Product) (ds : List Product) → close (placed c ds) ≡ (is_near ds c || close ds)
close-placed c [] = refl
close-placed c (d ∷ ds) = elim (cases_Bool (precedes c d)) [
  | inl e ↦ rw e (ap₂ (λ a b. a || b) (any-placed (λ e. ltb (distance d e) 2) c ds ∙ ap (λ k. ltb k 2 || is_near ds d) (distance_back d c)) (close-placed c ds)
      ∙ shuffle (ltb (distance c d) 2) (is_near ds d) (is_near ds c) (close ds))
  | inr e ↦ rw e refl
]
