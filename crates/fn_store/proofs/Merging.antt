-- The merge of two lists in term order: equal terms cancel.
use Rattle.std.proofs.Common.{◌≡◌, ℕ, suc, ◌+◌, ◌<◌, ◌≤◌, ◌⊎◌, inl, inr, Bool, List, [], ◌∷◌, ◌++◌, length, drop, get_or, sym, ap, ap₂, ◌∙◌, subst, arith, append-nil, append_assoc, refl, length-append, Less}
use Rattle.std.specs.List.{AllByRecursion}
use Rattle.std.proofs.lemmas.List.Sorted.{IsPermutation-append_comm, IsPermutation-append_right, IsPermutation-middle}
use Rattle.std.proofs.lemmas.List.{drop_more, drop_all}
use Rattle.ae_base.specs.Mask.{Set, differ, cmp_terms}
use Rattle.ae_base.specs.Terms.{exor_of, IsInOrder}
use Rattle.ae_base.proofs.Distinct.{each_front, each-append, each_weaker}
use Rattle.ae_base.proofs.Order.{less_trans}
use Rattle.ae_base.proofs.Truth.{differ-cancel}
use Rattle.fn_store.specs.Scratch.{IsReduced}
use Rattle.ae_base.proofs.Exor.{exor_of-append, exor_of-permutation}
use Rattle.ae_base.proofs.InOrder.{Ordered, After, Ordered-from, from_Ordered}
use Rattle.fn_store.proofs.Cancel.{all_skip, behind}

-- ---- a term between two parts

all_put : (P : Set → Type 0) (xs : List Set) (s : Set) (ys : List Set) (t : Set) (zs : List Set) → AllByRecursion P (xs ++ s ∷ ys) → AllByRecursion P (xs ++ t ∷ zs) → AllByRecursion P (xs ++ s ∷ t ∷ zs)
all_put P xs s ys t zs h k = let b = each_front P xs (s ∷ ys) h in let c = each_front P xs (t ∷ zs) k in each-append P xs (s ∷ t ∷ zs) b.0 (b.1.0, c.1)

put : (xs : List Set) (s : Set) (ys : List Set) (t : Set) (zs : List Set) → Ordered (xs ++ s ∷ ys) → Ordered (xs ++ t ∷ zs) → cmp_terms s t ≡ Less → Ordered (xs ++ s ∷ t ∷ zs)
put [] s ys t zs h (k, ks) l = ((l, each_weaker _ _ (λ u m. less_trans s t u l m) zs k), (k, ks))
put (x ∷ xs) s ys t zs (h, hs) (k, ks) l = (all_put (λ u. cmp_terms x u ≡ Less) xs s ys t zs h k, put xs s ys t zs hs ks l)

skip : (xs : List Set) (y : Set) (ys : List Set) → Ordered (xs ++ y ∷ ys) → Ordered (xs ++ ys)
skip [] y ys (h, hs) = hs
skip (x ∷ xs) y ys (h, hs) = (all_skip (λ u. cmp_terms x u ≡ Less) xs y ys h, skip xs y ys hs)

exor_of-front : (h : Set → Bool) (xs : List Set) (y : Set) (ys : List Set) → exor_of h (xs ++ y ∷ ys) ≡ differ (h y) (exor_of h (xs ++ ys))
exor_of-front h xs y ys = sym (exor_of-permutation h _ _ (IsPermutation-middle xs y ys))

-- ---- the steps

-- what is merged of the first i terms of a and of the first j of b, beside the others
pub record Merged (a b : List Set) (i j : ℕ) (both : List Set) : Type 0 where
  pub in_a : i ≤ length a
  pub in_b : j ≤ length b
  pub count : length both ≤ i + j
  pub left : IsInOrder a → IsInOrder b → Ordered (both ++ drop i a)
  pub right : IsInOrder a → IsInOrder b → Ordered (both ++ drop j b)
  pub same : (h : Set → Bool) → exor_of h ((both ++ drop i a) ++ drop j b) ≡ exor_of h (a ++ b)

pub Merged-start : (a b both : List Set) → both ≡ [] → Merged a b 0 0 both
Merged-start a b both e = subst (Merged a b 0 0) (sym e) (record {
  in_a = omega arith;
  in_b = omega arith;
  count = omega arith;
  left = λ in_a in_b. Ordered-from a in_a;
  right = λ in_a in_b. Ordered-from b in_b;
  same = λ h. refl;
})

pub rest_at : (xs : List Set) (i : ℕ) (x : Set) → i < length xs → x ≡ get_or xs i x → drop i xs ≡ x ∷ drop (i + 1) xs
rest_at xs i x l read = drop_more xs i x l ∙ ap (λ u. u ∷ drop (i + 1) xs) (sym read)

pub Merged-left : (a b both more : List Set) (i j : ℕ) (s t : Set) → i < length a → j < length b → s ≡ get_or a i s → t ≡ get_or b j t → cmp_terms s t ≡ Less → more ≡ both ++ s ∷ [] → Merged a b i j both → Merged a b (i + 1) j more
Merged-left a b both more i j s t in_a in_b at_a at_b less e now =
    let d = rest_at a i s in_a at_a in
    let f = rest_at b j t in_b at_b in
    let moved : more ++ drop (i + 1) a ≡ both ++ drop i a = ap (λ us. us ++ drop (i + 1) a) e ∙ behind both s (drop (i + 1) a) ∙ ap (λ us. both ++ us) (sym d) in
    record {
      in_a = omega arith;
      in_b = now.in_b;
      count = omega (arith, ap length e, length-append both (s ∷ []), now.count);
      left = λ p q. subst Ordered (sym moved) (now.left p q);
      right = λ p q.
          subst Ordered (sym (ap (λ us. us ++ drop j b) e ∙ behind both s (drop j b) ∙ ap (λ us. both ++ s ∷ us) f))
          (put both s (drop (i + 1) a) t (drop (j + 1) b) (subst (λ us. Ordered (both ++ us)) d (now.left p q)) (subst (λ us. Ordered (both ++ us)) f (now.right p q)) less);
      same = λ h. ap (λ us. exor_of h (us ++ drop j b)) moved ∙ now.same h;
    }

-- the two lists may change places
turned : (a b both : List Set) (i j : ℕ) → Merged a b i j both → Merged b a j i both
turned a b both i j now = record {
  in_a = now.in_b;
  in_b = now.in_a;
  count = omega (arith, now.count);
  left = λ p q. now.right q p;
  right = λ p q. now.left q p;
  same = λ h.
      ap (exor_of h) (append_assoc both (drop j b) (drop i a))
      ∙ exor_of-permutation h _ _ (IsPermutation-append_right both _ _ (IsPermutation-append_comm (drop i a) (drop j b)))
      ∙ ap (exor_of h) (sym (append_assoc both (drop i a) (drop j b))) ∙ now.same h ∙ exor_of-permutation h _ _ (IsPermutation-append_comm b a);
}

pub Merged-right : (a b both more : List Set) (i j : ℕ) (s t : Set) → i < length a → j < length b → s ≡ get_or a i s → t ≡ get_or b j t → cmp_terms t s ≡ Less → more ≡ both ++ t ∷ [] → Merged a b i j both → Merged a b i (j + 1) more
Merged-right a b both more i j s t in_a in_b at_a at_b less e now = turned b a more (j + 1) i (Merged-left b a both more j i t s in_b in_a at_b at_a less e (turned a b both i j now))

pub Merged-both : (a b both : List Set) (i j : ℕ) (s t : Set) → i < length a → j < length b → s ≡ get_or a i s → t ≡ get_or b j t → s ≡ t → Merged a b i j both → Merged a b (i + 1) (j + 1) both
Merged-both a b both i j s t in_a in_b at_a at_b e now =
    let d = rest_at a i s in_a at_a in
    let f = rest_at b j t in_b at_b in
    record {
      in_a = omega arith;
      in_b = omega arith;
      count = omega (arith, now.count);
      left = λ p q. skip both s (drop (i + 1) a) (subst (λ us. Ordered (both ++ us)) d (now.left p q));
      right = λ p q. skip both t (drop (j + 1) b) (subst (λ us. Ordered (both ++ us)) f (now.right p q));
      same = λ h.
          exor_of-append h (both ++ drop (i + 1) a) (drop (j + 1) b) ∙ sym (differ-cancel (h s) (exor_of h (both ++ drop (i + 1) a)) (exor_of h (drop (j + 1) b)))
          ∙ ap₂ differ (sym (exor_of-front h both s (drop (i + 1) a)) ∙ ap (λ us. exor_of h (both ++ us)) (sym d)) (ap (λ u. differ (h u) (exor_of h (drop (j + 1) b))) e ∙ ap (exor_of h) (sym f))
          ∙ sym (exor_of-append h (both ++ drop i a) (drop j b)) ∙ now.same h;
    }

-- one of the two lists is at its end
pub Merged-end : (a b both all : List Set) (i j : ℕ) → (length a ≤ i) ⊎ (length b ≤ j) → all ≡ (both ++ drop i a) ++ drop j b → Merged a b i j both → IsInOrder a → IsInOrder b → IsReduced (a ++ b) all
Merged-end a b both all i j ends e now p q = record {
  order = from_Ordered all (subst Ordered (sym e) (ordered ends));
  same = λ h. ap (exor_of h) e ∙ now.same h;
}
  where
    ordered : (length a ≤ i) ⊎ (length b ≤ j) → Ordered ((both ++ drop i a) ++ drop j b)
    ordered (inl l) = subst (λ us. Ordered (us ++ drop j b)) (sym (ap (λ us. both ++ us) (drop_all i a l) ∙ append-nil both)) (now.right p q)
    ordered (inr l) = subst Ordered (sym (ap (λ us. (both ++ drop i a) ++ us) (drop_all j b l) ∙ append-nil (both ++ drop i a))) (now.left p q)
