-- At the two vectors of an input an output differs: no other term that holds the input lies inside the first one.
use Rattle.std.proofs.Common.{Bool, List, [], ap, arith, cond, eq-eqb, eqb, eqb-true, false, inl, inr, ne_eqb, not, refl, suc, sym, true, ℕ, ◌&&◌, ◌++◌, ◌<◌, ◌||◌, ◌∙◌, ◌∷◌, ◌≡◌, ◌≢◌}
use Rattle.std.specs.List.{find, flat_map, list_any}
use Rattle.std.specs.Prelude.{Some, slice_get}
use Rattle.std.specs.declared.cmp.Ordering.TheVariants.{Less}
use Rattle.std.proofs.Math.Bool.{and-true}
use Rattle.std.proofs.lemmas.Bool.{and_parts, cases_Bool, cases_eq, false≢true, or_cases, or_right}
use Rattle.std.proofs.lemmas.List.Elements.{recursion_from_All}
use Rattle.std.proofs.lemmas.Option.{same_Some}
use Rattle.ae_base.specs.Cube.{Signs, holds}
use Rattle.ae_base.specs.Mask.{Set, cmp_terms, differ, has, inside, members, xor}
use Rattle.ae_base.specs.Points.{flipped}
use Rattle.ae_base.specs.Terms.{IsInOrder, literal, product}
use Rattle.ae_base.proofs.Elements.{All-get, each_at, each_member, list_all_agree}
use Rattle.ae_base.proofs.Exor.{exor_of-member}
use Rattle.ae_base.proofs.InOrder.{in_order-tail}
use Rattle.ae_base.proofs.Literals.{literals-product, product-literals, product_false}
use Rattle.ae_base.proofs.Members.{members-has}
use Rattle.ae_base.proofs.Order.{less_irreflexive, less_trans, order-inside}
use Rattle.ae_base.proofs.Points.{has-flipped}
use Rattle.ae_base.proofs.Sets.{has-inside}
use Rattle.ae_base.proofs.Truth.{differ-false, not_not, or-false}
use Rattle.ae_net.specs.Names.{Names}
use Rattle.expansion.specs.Terms.{Terms, is_used, used_inputs}
use Rattle.cascade.specs.FirstVectors.{literals_at}
use Rattle.cascade.specs.Shows.{CanBuild}
use Rattle.cascade.proofs.Law.{IsTerm, terms_at}
use Rattle.universal_tests.proofs.AtVectors.{literal-all_at, literal-flipped, literal-xor, member_used}
use Rattle.universal_tests.proofs.Gates.{exor_turned}
use Rattle.universal_tests.proofs.Literals.{Pair}
use Rattle.input_tests.specs.Inputs.{term_but, term_high}

-- ---- the first term

-- term t is the first that holds input j, in the expansion of output o
pub record FirstAt (j : ℕ) (tss : List (List Set)) : Type 0 where
  pub o : ℕ
  pub ts : List Set
  pub t : Set
  pub there : slice_get tss o ≡ Some ts
  pub first : find (λ u. has u j) ts ≡ Some t
  pub overall : find (λ u. has u j) (flat_map (λ us. us) tss) ≡ Some t

find_left : (q : Set → Bool) (xs ys : List Set) → list_any q xs ≡ true → (t : Set) × (find q xs ≡ Some t) × (find q (xs ++ ys) ≡ Some t)
find_left q [] ys h = absurd (false≢true h)
find_left q (x ∷ xs) ys h = elim (cases_Bool (q x)) [ inl e ↦ rw e (x, refl, refl) | inr e ↦ rw e (find_left q xs ys (rw e at h)) ]

find_right : (q : Set → Bool) (xs ys : List Set) → list_any q xs ≡ false → find q (xs ++ ys) ≡ find q ys
find_right q [] ys h = refl
find_right q (x ∷ xs) ys h = elim (cases_Bool (q x)) [ inl e ↦ absurd (false≢true (sym (rw e at h))) | inr e ↦ rw e (find_right q xs ys (rw e at h)) ]

pub first_at : (j : ℕ) (tss : List (List Set)) → list_any (λ ts. list_any (λ t. has t j) ts) tss ≡ true → FirstAt j tss
first_at j [] h = absurd (false≢true h)
first_at j (ts ∷ tss) h =
    elim (cases_Bool (list_any (λ t. has t j) ts)) [
      | inl e ↦ let r = find_left (λ u. has u j) ts (flat_map (λ us. us) tss) e in record { o = 0; ts = ts; t = r.0; there = refl; first = r.1; overall = r.2 }
      | inr e ↦
          let r : FirstAt j tss = first_at j tss (rw e at h) in
          record { o = suc r.o; ts = r.ts; t = r.t; there = r.there; first = r.first; overall = find_right (λ u. has u j) ts (flat_map (λ us. us) tss) e ∙ r.overall }
    ]

pub find_member : (q : Set → Bool) (xs : List Set) (t : Set) → find q xs ≡ Some t → (q t ≡ true) × (list_any (λ u. eqb u t) xs ≡ true)
find_member q [] t h = cc
find_member q (x ∷ xs) t h =
    elim (cases_Bool (q x)) [
      | inl e ↦ let same : x ≡ t = same_Some x t (rw e at h) in (ap q (sym same) ∙ e, rw (eq-eqb x t same) refl)
      | inr e ↦ let r = find_member q xs t (rw e at h) in (r.0, or_right _ _ r.1)
    ]

-- ---- the literals at the two vectors

-- the two vectors of term t and input j
abbrev pub pair : Signs → Set → ℕ → Set → Bool → Set
pair p used j t b = cond b (term_high p used t) (term_but p used j t)

-- where the term holds the input: a member's literal is 1, but the input's own at the second
pub literal-pair : (p : Signs) (used : Set) (j : ℕ) (t : Set) → has t j ≡ true → (b : Bool) (k : ℕ) → k < p.n → has used k ≡ true → literal p k (pair p used j t b) ≡ (has t k && (b || not (eqb k j)))
unfolding term_high term_but
literal-pair p used j t m b k l u = by b
  where
    high : literal p k (xor (literals_at p used false) t) ≡ has t k
    high = literal-xor p (literals_at p used false) t k ∙ ap (λ b. differ b (has t k)) (literal-all_at p used false false k l u)

    by : (b : Bool) → literal p k (cond b (xor (literals_at p used false) t) (flipped j (xor (literals_at p used false) t))) ≡ (has t k && (b || not (eqb k j)))
    by true = high ∙ sym (and-true (has t k))
    by false =
        literal-flipped p j (xor (literals_at p used false) t) k
        ∙ ap (λ b. differ b (eqb k j)) high
        ∙ elim (cases_eq k j) [ inl e ↦ rw (eq-eqb k j e, ap (has t) e ∙ m) refl | inr n ↦ rw (ne_eqb k j n) (differ-false (has t k) ∙ sym (and-true (has t k))) ]

-- ---- the products at the two vectors

-- a product is 0 where the literals that are 1 are those of members of t, and the term is not inside t
product_outside : (p : Signs) (x t u : Set) → ((k : ℕ) → has u k ≡ true → literal p k x ≡ true → has t k ≡ true) → (inside u t ≡ true → ⊥) → product p u x ≡ false
product_outside p x t u only apart =
    elim (cases_Bool (product p u x)) [ inl all ↦ absurd (apart (has-inside u t (λ k m. only k m (product-literals p u x all k m)))) | inr none ↦ none ]

later_outside : (t u : Set) → cmp_terms t u ≡ Less → inside u t ≡ true → ⊥
later_outside t u before within = elim (cases_eq u t) [ inl e ↦ less_irreflexive t (ap (cmp_terms t) (sym e) ∙ before) | inr n ↦ less_irreflexive t (less_trans t u t before (order-inside u t within n)) ]

product_agree : (p : Signs) (u x y : Set) → ((k : ℕ) → has u k ≡ true → literal p k x ≡ literal p k y) → product p u x ≡ product p u y
unfolding product
product_agree p u x y h = list_all_agree (λ k. literal p k x) (λ k. literal p k y) (members u) (λ k m. h k (sym (members-has u k) ∙ m))

-- the other terms that pass a test are after the first that does
after_first : (q : Set → Bool) (ts : List Set) (t : Set) → IsInOrder ts → find q ts ≡ Some t → (u : Set) → list_any (λ y. eqb y u) ts ≡ true → q u ≡ true → (u ≢ t) → cmp_terms t u ≡ Less
after_first q [] t order found u m holds other = absurd (false≢true m)
after_first q (x ∷ xs) t order found u m holds other =
    elim (or_cases _ _ m) [
      | inl here ↦ let same : x ≡ u = eqb-true x u here in absurd (other (sym same ∙ same_Some x t (rw (ap q same ∙ holds) at found)))
      | inr past ↦ elim (cases_Bool (q x)) [
        | inl e ↦ ap (λ y. cmp_terms y u) (sym (same_Some x t (rw e at found))) ∙ each_at (λ y. cmp_terms x y ≡ Less) u xs (recursion_from_All _ xs (λ k d l. order 0 (suc k) d (omega arith) (omega (arith, l)))) past
        | inr e ↦ after_first q xs t (in_order-tail x xs order) (rw e at found) u past holds other
      ]
    ]

module _ (names : Names) (e : Terms) (can : CanBuild names e) (j : ℕ) (used : is_used e j ≡ true) where
  pub at : FirstAt j e.outs
  at = first_at j e.outs used

  abbrev pub own : Bool → Set
  own b = pair e.polarity (used_inputs e) j at.t b

  abbrev f : Bool → Set → Bool
  f b u = product e.polarity u (own b)

  held : (has at.t j ≡ true) × (list_any (λ u. eqb u at.t) at.ts ≡ true)
  held = find_member (λ u. has u j) at.ts at.t at.first

  first_term : IsTerm e at.t
  first_term = each_at (IsTerm e) at.t at.ts (terms_at e can.terms at.o at.ts at.there) held.1

  literal_own : (b : Bool) (u : Set) → IsTerm e u → (k : ℕ) → has u k ≡ true → literal e.polarity k (own b) ≡ (has at.t k && (b || not (eqb k j)))
  literal_own b u is k m = let r = member_used e u is.0 is.1 k m in literal-pair e.polarity (used_inputs e) j at.t held.0 b k r.0 r.1

  -- a term that does not hold the input
  same_without : (b : Bool) (u : Set) → IsTerm e u → has u j ≡ false → f b u ≡ f (not b) u
  same_without b u is none =
      product_agree e.polarity u (own b) (own (not b)) (λ k m.
      let other : eqb k j ≡ false = ne_eqb k j (λ same. false≢true (sym none ∙ ap (has u) (sym same) ∙ m)) in
      literal_own b u is k m ∙ rw other (by b (has at.t k)) ∙ sym (literal_own (not b) u is k m))
    where
      by : (b a : Bool) → (a && (b || true)) ≡ (a && (not b || true))
      by true a = refl
      by false a = refl

  -- a later term that holds it
  none_later : (b : Bool) (u : Set) → IsTerm e u → cmp_terms at.t u ≡ Less → f b u ≡ false
  none_later b u is before = product_outside e.polarity (own b) at.t u (λ k m holds. (and_parts _ _ (sym (literal_own b u is k m) ∙ holds)).0) (later_outside at.t u before)

  -- the first one
  first_is : (b : Bool) → f b at.t ≡ b
  first_is true = literals-product e.polarity at.t (own true) (λ k m. literal_own true at.t first_term k m ∙ ap (λ a. a && true) m)
  first_is false = product_false e.polarity at.t (own false) j held.0 (literal_own false at.t first_term j held.0 ∙ rw (held.0, eq-eqb j j refl) refl)

  -- the first one alone turns
  turned_first : (b : Bool) (u : Set) → IsTerm e u → list_any (λ y. eqb y u) at.ts ≡ true → f b u ≡ differ (eqb u at.t) (f (not b) u)
  turned_first b u is m =
      elim (cases_eq u at.t) [
        | inl same ↦ rw (eq-eqb u at.t same) (ap (f b) same ∙ first_is b ∙ not_not b ∙ ap not (sym (ap (f (not b)) same ∙ first_is (not b))))
        | inr other ↦ rw (ne_eqb u at.t other) (elim (cases_Bool (has u j)) [
          | inl holds ↦ let later = after_first (λ t. has t j) at.ts at.t (All-get IsInOrder e.outs at.o at.ts can.terms.order at.there) at.first u m holds other in none_later b u is later ∙ sym (none_later (not b) u is later)
          | inr none ↦ same_without b u is none
        ])
      ]

  pub tells : Pair e j at.o at.ts own
  unfolding term_but
  tells = record {
    there = at.there;
    others = others;
    own = λ b. literal_own b at.t first_term j held.0 ∙ rw (held.0, eq-eqb j j refl) (or-false b);
    turns = λ b. exor_turned (f b) (f (not b)) (λ u. eqb u at.t) at.ts
        (each_member (λ u. f b u ≡ differ (eqb u at.t) (f (not b) u)) at.ts (λ u m. turned_first b u (each_at (IsTerm e) u at.ts (terms_at e can.terms at.o at.ts at.there) m) m))
        (exor_of-member at.t at.ts (All-get IsInOrder e.outs at.o at.ts can.terms.order at.there) ∙ held.1);
  }
    where
      but_same : (k : ℕ) → (k ≢ j) → has (own false) k ≡ has (own true) k
      but_same k other = has-flipped j (own true) k ∙ ap (differ (has (own true) k)) (ne_eqb k j other) ∙ differ-false _

      others : (b : Bool) (k : ℕ) → (k ≢ j) → has (own b) k ≡ has (own (not b)) k
      others true k other = sym (but_same k other)
      others false k other = but_same k other
