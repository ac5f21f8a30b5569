-- Lists in the order of terms, without repeats: the members determine such a list, and terms are put into one.
use Rattle.std.proofs.Common.{◌≡◌, ◌≢◌, suc, Bool, true, false, cond, ◌||◌, List, [], ◌∷◌, Less, Equal, Greater, refl, sym, ap, ap₂, ◌∙◌, subst, inl, inr, arith, eqb, eqb-true, eq-eqb}
use Rattle.std.specs.declared.cmp.Ordering.{Ordering}
use Rattle.std.specs.Ordering.{is_lt, ordering_reverse}
use Rattle.std.specs.List.{list_any, AllByRecursion}
use Rattle.std.proofs.lemmas.Bool.{cases_Bool, false≢true, or_cases, or_left}
use Rattle.std.proofs.lemmas.List.Elements.{All-from_recursion, recursion_from_All}
use Rattle.std.proofs.lemmas.List.Kept.{AllPairs-cons}
use Rattle.ae_base.specs.Mask.{Set, cmp_terms}
use Rattle.ae_base.specs.Terms.{IsInOrder, placed, in_order}
use Rattle.ae_base.proofs.Order.{cmp_terms_total, cmp_equal, less_trans, less_irreflexive}
use Rattle.ae_base.proofs.Truth.{or-front}

pub less_from_sorted : (s t : Set) → is_lt (cmp_terms t s) ≡ false → s ≢ t → cmp_terms s t ≡ Less
less_from_sorted s t h ne = by_order (cmp_terms s t) refl
  where
    by_order : (o : Ordering) → cmp_terms s t ≡ o → cmp_terms s t ≡ Less
    by_order Less e = e
    by_order Equal e = absurd (ne (cmp_equal s t e))
    by_order Greater e = absurd (false≢true (sym h ∙ ap is_lt (cmp_terms_total.antisymm t s ∙ ap ordering_reverse e)))

-- ---- the terms of a list determine it

pub in_order-tail : (t : Set) (ts : List Set) → IsInOrder (t ∷ ts) → IsInOrder ts
in_order-tail t ts h i j d lt within = h (suc i) (suc j) d (omega arith) (omega arith)

-- the first comes before all others
in_order-head : (t : Set) (ts : List Set) → IsInOrder (t ∷ ts) → (u : Set) → list_any (λ v. eqb v u) ts ≡ true → cmp_terms t u ≡ Less
in_order-head t [] h u e = absurd (false≢true e)
in_order-head t (s ∷ ts) h u e =
    let first : cmp_terms t s ≡ Less = h 0 1 0 (omega arith) (omega arith) in
    elim (or_cases (eqb s u) _ e) [
      | inl here ↦ ap (cmp_terms t) (sym (eqb-true s u here)) ∙ first
      | inr later ↦ less_trans t s u first (in_order-head s ts (in_order-tail t (s ∷ ts) h) u later)
    ]

pub not_listed : (t : Set) (ts : List Set) → IsInOrder (t ∷ ts) → list_any (λ v. eqb v t) ts ≡ false
not_listed t ts h = elim (cases_Bool (list_any (λ v. eqb v t) ts)) [ inl e ↦ absurd (less_irreflexive t (in_order-head t ts h t e)) | inr e ↦ e ]

listed_first : (t : Set) (ts : List Set) → list_any (λ v. eqb v t) (t ∷ ts) ≡ true
listed_first t ts = or_left (eqb t t) _ (eq-eqb t t refl)

same_heads : (t u : Set) (ts us : List Set) → IsInOrder (t ∷ ts) → IsInOrder (u ∷ us) → list_any (λ v. eqb v u) (t ∷ ts) ≡ true → list_any (λ v. eqb v t) (u ∷ us) ≡ true → t ≡ u
same_heads t u ts us h k in_ts in_us =
    elim (or_cases (eqb t u) _ in_ts) [
      | inl e ↦ eqb-true t u e
      | inr later ↦ elim (or_cases (eqb u t) _ in_us) [
        | inl e ↦ sym (eqb-true u t e)
        | inr too ↦ absurd (less_irreflexive t (less_trans t u t (in_order-head t ts h u later) (in_order-head u us k t too)))
      ]
    ]

other_part : (a b c : Bool) → a ≡ false → (a || b) ≡ (a || c) → b ≡ c
other_part true b c e h = absurd (false≢true (sym e))
other_part false b c e h = h

same_rest : (t : Set) (ts us : List Set) → IsInOrder (t ∷ ts) → IsInOrder (t ∷ us) → ((v : Set) → list_any (λ w. eqb w v) (t ∷ ts) ≡ list_any (λ w. eqb w v) (t ∷ us)) → (v : Set) → list_any (λ w. eqb w v) ts ≡ list_any (λ w. eqb w v) us
same_rest t ts us h k same v =
    elim (cases_Bool (eqb t v)) [
      | inl e ↦ subst (λ x. list_any (λ w. eqb w x) ts ≡ list_any (λ w. eqb w x) us) (eqb-true t v e) (not_listed t ts h ∙ sym (not_listed t us k))
      | inr e ↦ other_part (eqb t v) _ _ e (same v)
    ]

-- two lists in order with the same terms are equal
pub in_order-same : (ts us : List Set) → IsInOrder ts → IsInOrder us → ((v : Set) → list_any (λ w. eqb w v) ts ≡ list_any (λ w. eqb w v) us) → ts ≡ us
in_order-same [] [] h k same = refl
in_order-same (t ∷ ts) [] h k same = absurd (false≢true (sym (same t) ∙ listed_first t ts))
in_order-same [] (u ∷ us) h k same = absurd (false≢true (same u ∙ listed_first u us))
in_order-same (t ∷ ts) (u ∷ us) h k same =
    let e : t ≡ u = same_heads t u ts us h k (same u ∙ listed_first u us) (sym (same t) ∙ listed_first t ts) in
    let k' : IsInOrder (t ∷ us) = subst (λ x. IsInOrder (x ∷ us)) (sym e) k in
    let same' : (v : Set) → list_any (λ w. eqb w v) (t ∷ ts) ≡ list_any (λ w. eqb w v) (t ∷ us) = subst (λ x. (v : Set) → list_any (λ w. eqb w v) (t ∷ ts) ≡ list_any (λ w. eqb w v) (x ∷ us)) (sym e) same in
    ap₂ (λ x xs. x ∷ xs) e (in_order-same ts us (in_order-tail t ts h) (in_order-tail u us k) (same_rest t ts us h k' same'))

-- ---- terms that are put in order

less_is : (t u : Set) → is_lt (cmp_terms t u) ≡ true → cmp_terms t u ≡ Less
less_is t u h = by_order (cmp_terms t u) refl
  where
    by_order : (o : Ordering) → cmp_terms t u ≡ o → cmp_terms t u ≡ Less
    by_order Less e = e
    by_order Equal e = absurd (false≢true (sym (ap is_lt e) ∙ h))
    by_order Greater e = absurd (false≢true (sym (ap is_lt e) ∙ h))

pub each_placed : (P : Set → Type 0) (t : Set) (us : List Set) → P t → AllByRecursion P us → AllByRecursion P (placed t us)
each_placed P t [] p h = (p, tt)
each_placed P t (u ∷ us) p (h, hs) = by_same (eqb t u) (is_lt (cmp_terms t u)) (each_placed P t us p hs)
  where
    by_same : (b c : Bool) → AllByRecursion P (placed t us) → AllByRecursion P (cond b (u ∷ us) (cond c (t ∷ u ∷ us) (u ∷ placed t us)))
    by_same true c k = (h, hs)
    by_same false true k = (p, (h, hs))
    by_same false false k = (h, k)

later_terms : (t u : Set) (us : List Set) → cmp_terms t u ≡ Less → AllByRecursion (λ y. cmp_terms u y ≡ Less) us → AllByRecursion (λ y. cmp_terms t y ≡ Less) us
later_terms t u [] l h = tt
later_terms t u (y ∷ us) l (h, hs) = (less_trans t u y l h, later_terms t u us l hs)

pub placed-order : (t : Set) (us : List Set) → IsInOrder us → IsInOrder (placed t us)
placed-order t [] order = λ i j d l k. absurd (omega (arith, k, l))
placed-order t (u ∷ us) order = by_same (eqb t u) refl (is_lt (cmp_terms t u)) refl (placed-order t us (in_order-tail u us order))
  where
    above : AllByRecursion (λ y. cmp_terms u y ≡ Less) us
    above = recursion_from_All _ us (λ k d l. order 0 (suc k) d (omega arith) (omega (arith, l)))

    by_same : (b : Bool) → eqb t u ≡ b → (c : Bool) → is_lt (cmp_terms t u) ≡ c → IsInOrder (placed t us) → IsInOrder (cond b (u ∷ us) (cond c (t ∷ u ∷ us) (u ∷ placed t us)))
    by_same true e c f h = order
    by_same false e true f h =
        AllPairs-cons (λ s y. cmp_terms s y ≡ Less) t (u ∷ us) (All-from_recursion _ (u ∷ us) (less_is t u f, later_terms t u us (less_is t u f) above)) order
    by_same false e false f h =
        AllPairs-cons (λ s y. cmp_terms s y ≡ Less) u (placed t us) (All-from_recursion _ (placed t us) (each_placed (λ y. cmp_terms u y ≡ Less) t us (less_from_sorted u t f (λ same. false≢true (sym e ∙ eq-eqb t u (sym same)))) above)) h

-- ---- in order, by recursion

abbrev pub After : Set → List Set → Type 0
After t us = AllByRecursion (λ u. cmp_terms t u ≡ Less) us

abbrev pub Ordered : List Set → Type 0
Ordered [] = Unit {0}
Ordered (t ∷ ts) = After t ts × Ordered ts

pub Ordered-from : (ts : List Set) → IsInOrder ts → Ordered ts
Ordered-from [] order = tt
Ordered-from (t ∷ ts) order =
    (recursion_from_All (λ u. cmp_terms t u ≡ Less) ts (λ i d l. order 0 (suc i) d (omega arith) (omega (arith, l))), Ordered-from ts (λ i j d l h. order (suc i) (suc j) d (omega arith) (omega (arith, h))))

pub from_Ordered : (ts : List Set) → Ordered ts → IsInOrder ts
from_Ordered [] h = λ i j d l k. absurd (omega (arith, k))
from_Ordered (t ∷ ts) (h, hs) = AllPairs-cons (λ s t. cmp_terms s t ≡ Less) t ts (All-from_recursion (λ u. cmp_terms t u ≡ Less) ts h) (from_Ordered ts hs)

-- ---- terms that are put in order

pub in_order-order : (ts : List Set) → IsInOrder (in_order ts)
in_order-order [] = λ i j d l k. absurd (omega (arith, k, l))
in_order-order (t ∷ ts) = placed-order t (in_order ts) (in_order-order ts)

or_again : (a b c : Bool) → a ≡ b → (b || c) ≡ (a || (b || c))
or_again true true c e = refl
or_again true false c e = absurd (false≢true (sym e))
or_again false b c e = refl

-- a test finds the same terms among them
pub any-placed : (q : Set → Bool) (t : Set) (us : List Set) → list_any q (placed t us) ≡ (q t || list_any q us)
any-placed q t [] = refl
any-placed q t (u ∷ us) = by_same (eqb t u) refl (is_lt (cmp_terms t u)) (any-placed q t us)
  where
    by_same : (b : Bool) → eqb t u ≡ b → (c : Bool) → list_any q (placed t us) ≡ (q t || list_any q us) → list_any q (cond b (u ∷ us) (cond c (t ∷ u ∷ us) (u ∷ placed t us))) ≡ (q t || (q u || list_any q us))
    by_same true e c h = or_again (q t) (q u) (list_any q us) (ap q (eqb-true t u e))
    by_same false e true h = refl
    by_same false e false h = ap (λ b. q u || b) h ∙ or-front (q u) (q t) (list_any q us)

pub any-in_order : (q : Set → Bool) (ts : List Set) → list_any q (in_order ts) ≡ list_any q ts
any-in_order q [] = refl
any-in_order q (t ∷ ts) = any-placed q t (in_order ts) ∙ ap (λ b. q t || b) (any-in_order q ts)
