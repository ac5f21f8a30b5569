-- Lists in which no term stands twice: put in term order they have the same terms, and where such a list is sorted it is in term order.
use Rattle.std.proofs.Common.{◌≡◌, ℕ, ◌+◌, ◌<◌, ◌≤◌, Bool, true, false, inl, inr, List, [], ◌∷◌, ◌++◌, map, length, get_or, sym, ap, ◌∙◌, eqb, eqb-true, eq-eqb, ne_eqb, arith}
use Rattle.std.specs.List.{AllByRecursion, IsDistinct}
use Rattle.std.specs.List.Sorted.{IsSorted, IsPermutation}
use Rattle.std.specs.Ordering.{is_lt}
use Rattle.std.proofs.lemmas.Bool.{cases_eq, cases_Bool, eqb-false, false≢true}
use Rattle.std.proofs.lemmas.List.Elements.{All-from_recursion, recursion_from_All}
use Rattle.std.proofs.lemmas.List.Sorted.{sorted_far, ranks_by, list_any-IsPermutation, All-permutation, IsPermutation-refl, IsPermutation-sym, IsPermutation-trans, IsPermutation-cons, IsPermutation-middle}
use Rattle.std.proofs.lemmas.Map.Keys.{IsDistinct-IsPermutation, apart_from_distinct}
use Rattle.ae_base.specs.Mask.{Set, has, with, cmp_terms}
use Rattle.ae_base.specs.Terms.{IsInOrder, placed, in_order}
use Rattle.ae_base.proofs.Distinct.{each-append, each-map, each_always}
use Rattle.ae_base.proofs.Order.{cmp_terms_total}
use Rattle.ae_base.proofs.Points.{put-same, put-other}
use Rattle.ae_base.proofs.Sets.{same_set}
use Rattle.ae_base.proofs.Truth.{same_truth}
use Rattle.ae_base.proofs.InOrder.{less_from_sorted, in_order-order, in_order-same, any-in_order}

abbrev pub IsOnce : List Set → Type 0
IsOnce ts = IsDistinct eqb ts

-- no term holds the input
abbrev pub Lacks : ℕ → List Set → Type 0
Lacks i ts = AllByRecursion (λ t. has t i ≡ false) ts

-- ---- a list, and another with an input in each term

with_same : (i : ℕ) (t u : Set) → has t i ≡ false → has u i ≡ false → with t i ≡ with u i → t ≡ u
with_same i t u ht hu e =
    same_set t u (λ k. elim (cases_eq k i) [ inl f ↦ rw f (ht ∙ sym hu) | inr f ↦ sym (put-other i k true t f) ∙ ap (λ s. has s k) e ∙ put-other i k true u f ])

once-with : (i : ℕ) (ts : List Set) → Lacks i ts → IsOnce ts → IsOnce (map (λ t. with t i) ts)
unfolding IsDistinct
once-with i [] none d = tt
once-with i (t ∷ ts) (n, ns) (h, d) = (apart ts ns h, once-with i ts ns d)
  where
    apart : (us : List Set) → Lacks i us → AllByRecursion (λ u. eqb t u ≡ false) us → AllByRecursion (λ u. eqb (with t i) u ≡ false) (map (λ u. with u i) us)
    apart [] ms hs = tt
    apart (u ∷ us) (m, ms) (k, ks) = (ne_eqb (with t i) (with u i) (λ e. eqb-false t u k (with_same i t u n m e)), apart us ms ks)

pub once-append : (i : ℕ) (ls hs : List Set) → Lacks i ls → Lacks i hs → IsOnce ls → IsOnce hs → IsOnce (ls ++ map (λ t. with t i) hs)
unfolding IsDistinct
once-append i [] hs no_ls no_hs d e = once-with i hs no_hs e
once-append i (l ∷ ls) hs (n, ns) no_hs (h, d) e =
    let others = each_always (λ t. eqb l (with t i) ≡ false) (λ t. ne_eqb l (with t i) (λ same. false≢true (sym n ∙ ap (λ s. has s i) same ∙ put-same i true t))) hs in
    (each-append (λ u. eqb l u ≡ false) ls (map (λ t. with t i) hs) h (each-map (λ u. eqb l u ≡ false) (λ t. with t i) hs others), once-append i ls hs ns no_hs d e)

-- ---- put in term order

placed-permutation : (t : Set) (us : List Set) → AllByRecursion (λ u. eqb t u ≡ false) us → IsPermutation (t ∷ us) (placed t us)
placed-permutation t [] h = IsPermutation-refl (t ∷ [])
placed-permutation t (u ∷ us) (h, hs) = elim (cases_Bool (is_lt (cmp_terms t u))) [
  | inl e ↦ rw (h, e) (IsPermutation-refl (t ∷ u ∷ us))
  | inr e ↦ rw (h, e) (IsPermutation-trans _ (u ∷ t ∷ us) _ (IsPermutation-sym _ _ (IsPermutation-middle (u ∷ []) t us)) (IsPermutation-cons u _ _ (placed-permutation t us hs)))
]

pub in_order-permutation : (ts : List Set) → IsOnce ts → IsPermutation ts (in_order ts)
unfolding IsDistinct
in_order-permutation [] once = IsPermutation-refl []
in_order-permutation (t ∷ ts) (h, once) =
    let rest = in_order-permutation ts once in
    IsPermutation-trans _ (t ∷ in_order ts) _ (IsPermutation-cons t _ _ rest)
    (placed-permutation t (in_order ts) (recursion_from_All _ _ (All-permutation (λ u. eqb t u ≡ false) ts (in_order ts) rest (All-from_recursion _ ts h))))

-- sorted terms of which none stands twice are the terms in term order
pub sorted-in_order : (ts us : List Set) → IsOnce ts → IsPermutation ts us → IsSorted cmp_terms us → us ≡ in_order ts
sorted-in_order ts us once moved up =
    in_order-same us (in_order ts) order (in_order-order ts) (λ t. sym (list_any-IsPermutation (λ u. eqb u t) ts us moved) ∙ sym (any-in_order (λ u. eqb u t) ts))
  where
    flips : (x y : ℕ) → eqb x y ≡ eqb y x
    flips x y = same_truth _ _ (λ e. eq-eqb y x (sym (eqb-true x y e))) (λ e. eq-eqb x y (sym (eqb-true y x e)))

    order : IsInOrder us
    order i j d l m =
        less_from_sorted (get_or us i d) (get_or us j d) (sorted_far (λ s t. is_lt (cmp_terms s t)) (ranks_by cmp_terms_total (λ (s : Set). s)) us up i j d (omega (arith, l)) m)
        (eqb-false _ _ (apart_from_distinct eqb us i j d (IsDistinct-IsPermutation eqb flips ts us moved once) l m))
