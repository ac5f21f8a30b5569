-- The shared terms stand in term order without repeats: a sort lists them, and a binary search finds them.
use Rattle.std.proofs.Common.{◌≡◌, ◌≢◌, ℕ, suc, ◌<◌, ◌≤◌, inl, inr, List, [], ◌∷◌, length, get_or, refl, sym, ap, ◌∙◌, subst, arith, eqb, ne_eqb}
use Rattle.std.specs.Prelude.{nat_eq}
use Rattle.std.specs.declared.cmp.Ordering.{Ordering}
use Rattle.std.specs.declared.cmp.Ordering.TheVariants.{Less, Equal, Greater}
use Rattle.std.specs.Ordering.{ordering_index}
use Rattle.std.specs.List.{HoldsAt, dedup, list_any}
use Rattle.std.specs.List.Retain.{IsFiltered, DiffersFromLast}
use Rattle.std.specs.List.Sorted.{IsPermutation, IsSorted, IsStrictlySortedBy, IsNonDecreasingBy, IsPartitionPoint}
use Rattle.std.proofs.lemmas.Bool.{cases_lt}
use Rattle.std.proofs.lemmas.List.Elements.{All-from_recursion}
use Rattle.std.proofs.lemmas.List.Filters.{dedup_is}
use Rattle.std.proofs.lemmas.List.Kept.{AllPairs-cons, Contains-dedup_nat, Contains-from_dedup, IsStrictlySortedBy-dedup}
use Rattle.std.proofs.lemmas.List.Sorted.{list_any-IsPermutation}
use Rattle.ae_base.specs.Mask.{Set, cmp_terms}
use Rattle.ae_base.specs.Terms.{IsInOrder, in_order}
use Rattle.ae_base.proofs.InOrder.{in_order-same, in_order-order, any-in_order}
use Rattle.ae_base.proofs.Order.{cmp_terms_total, cmp_equal, cmp_same, equal_where_tied, less_apart, less_trans}
use Rattle.ae_base.proofs.Truth.{same_truth}
use Rattle.ae_base.proofs.Elements.{any-from_Contains, Contains-from_any}
use Rattle.cascade.specs.declared.signals.Plan.{Plan}
use Rattle.cascade.specs.Plan.{IsPlan}
use Rattle.cascade.specs.Reddy.{place_of}
use Rattle.cascade.proofs.Law.{place_first, wide_order}

-- ---- terms in order

IsInOrder-from_rises : (ts : List Set) → IsStrictlySortedBy cmp_terms ts → IsInOrder ts
unfolding IsStrictlySortedBy
IsInOrder-from_rises [] h = λ i j d l k. absurd (omega (arith, k))
IsInOrder-from_rises (t ∷ ts) (h, hs) = AllPairs-cons (λ s u. cmp_terms s u ≡ Less) t ts (All-from_recursion (λ u. cmp_terms t u ≡ Less) ts h) (IsInOrder-from_rises ts hs)

pub plan_in_order : (plan : Plan) → IsPlan plan → IsInOrder plan.wide.items
plan_in_order plan is = subst IsInOrder (sym is.wide) (wide_order plan.expansion.now)

-- ---- a sort

-- what `dedup` leaves has the same terms
any-dedup : (ts : List Set) (t : Set) → list_any (λ u. eqb u t) (dedup nat_eq ts) ≡ list_any (λ u. eqb u t) ts
any-dedup ts t =
    same_truth _ _
    (λ h. any-from_Contains ts t (Contains-from_dedup nat_eq ts t (Contains-from_any (dedup nat_eq ts) t h)))
    (λ h. any-from_Contains (dedup nat_eq ts) t (Contains-dedup_nat ts t (Contains-from_any ts t h)))

-- a list that is sorted, and what `dedup` leaves of it
pub sorted_terms : (ts us vs : List Set) → IsPermutation ts us → IsSorted cmp_terms us → IsFiltered (DiffersFromLast nat_eq) [] us vs → vs ≡ in_order ts
sorted_terms ts us vs moved sorted kept =
    dedup_is nat_eq us vs kept
    ∙ in_order-same (dedup nat_eq us) (in_order ts)
    (IsInOrder-from_rises (dedup nat_eq us) (IsStrictlySortedBy-dedup cmp_terms_total equal_where_tied us sorted))
    (in_order-order ts)
    (λ v. any-dedup us v ∙ sym (list_any-IsPermutation (λ u. eqb u v) ts us moved) ∙ sym (any-in_order (λ u. eqb u v) ts))

-- ---- a binary search

pub place_past : (ts : List Set) (t : Set) → ((k : ℕ) → k < length ts → get_or ts k 0 ≢ t) → place_of ts t ≡ length ts
place_past [] t other = refl
place_past (u ∷ us) t other = rw (ne_eqb u t (other 0 (omega arith))) (ap suc (place_past us t (λ k l. other (suc k) (omega (arith, l)))))

pub found_by_search : (ts : List Set) (t : Set) (i : ℕ) → IsInOrder ts → i < length ts → HoldsAt (λ u. cmp_terms u t ≡ Equal) ts i → i ≡ place_of ts t
found_by_search ts t i order l found =
    let here : get_or ts i 0 ≡ t = cmp_equal (get_or ts i 0) t (found 0) in
    sym (place_first ts t i l here (λ k m e. less_apart (get_or ts k 0) (get_or ts i 0) (order k i 0 m l) (e ∙ sym here)))

not_greater : (s u t : Set) → cmp_terms s u ≡ Less → ordering_index (cmp_terms s t) ≤ ordering_index (cmp_terms u t)
not_greater s u t l = by_order (cmp_terms s t) (cmp_terms u t) (less_trans s u t l) (λ e. sym (ap (cmp_terms s) (cmp_equal u t e)) ∙ l)
  where
    by_order : (a b : Ordering) → (b ≡ Less → a ≡ Less) → (b ≡ Equal → a ≡ Less) → ordering_index a ≤ ordering_index b
    by_order a Less low tie = rw (low refl) (omega arith)
    by_order a Equal low tie = rw (tie refl) (omega arith)
    by_order Less Greater low tie = omega arith
    by_order Equal Greater low tie = omega arith
    by_order Greater Greater low tie = omega arith

answers_rise : (ts : List Set) (t : Set) → IsInOrder ts → IsNonDecreasingBy (λ u. ordering_index (cmp_terms u t)) ts
answers_rise ts t order i j d l m =
    elim (cases_lt i j) [
      | inl k ↦ not_greater (get_or ts i d) (get_or ts j d) t (order i j d k m)
      | inr k ↦ let same : i ≡ j = omega (arith, l, k) in rw same (omega arith)
    ]

pub missed_by_search : (ts : List Set) (t : Set) (i : ℕ) → IsInOrder ts → (IsNonDecreasingBy (λ u. ordering_index (cmp_terms u t)) ts → IsPartitionPoint (λ u. cmp_terms u t ≡ Less) (λ u. cmp_terms u t ≡ Greater) ts i) → length ts ≡ place_of ts t
missed_by_search ts t i order search =
    let parts : IsPartitionPoint (λ u. cmp_terms u t ≡ Less) (λ u. cmp_terms u t ≡ Greater) ts i = search (answers_rise ts t order) in
    sym (place_past ts t (λ k l e.
    let tied : cmp_terms (get_or ts k 0) t ≡ Equal = ap (λ u. cmp_terms u t) e ∙ cmp_same t in
    elim (cases_lt k i) [ inl below ↦ let wrong : Less ≡ Equal = sym (parts.0 k 0 (omega arith) below) ∙ tied in cc | inr above ↦ let wrong : Greater ≡ Equal = sym (parts.1 k 0 above l) ∙ tied in cc ]))
