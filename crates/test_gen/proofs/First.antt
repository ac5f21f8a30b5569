-- The least point of the first function that is 1 somewhere.
use Rattle.std.proofs.Common.{◌≡◌, ℕ, zero, suc, ◌+◌, ◌<◌, ◌≤◌, Bool, true, false, inl, inr, List, [], ◌∷◌, ◌++◌, Some, None, refl, sym, ap, ap₂, ◌∙◌, subst, arith}
use Rattle.std.specs.Prelude.{filter, slice_get}
use Rattle.std.specs.List.{AllByRecursion, flat_map, range_with_len}
use Rattle.std.proofs.lemmas.Bool.{cases_eq, cases_Bool}
use Rattle.ae_base.specs.Mask.{Set}
use Rattle.ae_base.specs.Cube.{Signs}
use Rattle.ae_base.specs.Terms.{IsPoint}
use Rattle.ae_base.proofs.Distinct.{each-append}
use Rattle.fn_store.specs.Functions.{AgreeAt, IsLeastPoint}
use Rattle.test_gen.specs.Points.{points_in_order, first_one}
use Rattle.test_gen.proofs.InOrder.{are_points, none_passes, no_point, least_passes, first_of_front, no_front}

-- ---- lists joined end to end

module _ {X : Type 0} (F : ℕ → List X) where
  all_empty : (a m : ℕ) → ((k : ℕ) → k < a + m → F k ≡ []) → flat_map F (range_with_len a m) ≡ []
  all_empty a zero h = refl
  all_empty a (suc m) h = ap₂ (λ us vs. us ++ vs) (h a (omega arith)) (all_empty (a + 1) m (λ k l. h k (omega arith)))

  first_full : (a m o : ℕ) (x : X) → a ≤ o → o < a + m → ((k : ℕ) → k < o → F k ≡ []) → slice_get (F o) 0 ≡ Some x → slice_get (flat_map F (range_with_len a m)) 0 ≡ Some x
  first_full a zero o x from below h e = absurd (omega (arith, from, below))
  first_full a (suc m) o x from below h e =
      elim (cases_eq a o) [
        | inl at ↦ first_of_front (F a) (flat_map F (range_with_len (a + 1) m)) x (ap (λ k. slice_get (F k) 0) at ∙ e)
        | inr ne ↦ ap (λ us. slice_get (us ++ flat_map F (range_with_len (a + 1) m)) 0) (h a (omega arith)) ∙ first_full (a + 1) m o x (omega arith) (omega arith) h e
      ]

  each_empty : (a m k : ℕ) → a ≤ k → k < a + m → flat_map F (range_with_len a m) ≡ [] → F k ≡ []
  each_empty a zero k from below e = absurd (omega (arith, from, below))
  each_empty a (suc m) k from below e =
      let parts : (F a ≡ []) × (flat_map F (range_with_len (a + 1) m) ≡ []) = no_front (F a) (flat_map F (range_with_len (a + 1) m)) e in
      elim (cases_eq a k) [ inl at ↦ ap F (sym at) ∙ parts.0 | inr ne ↦ each_empty (a + 1) m k (omega arith) (omega arith) parts.1 ]

  -- what holds of the elements of each holds of all
  each_of_all : (P : X → Type 0) (a m : ℕ) → ((k : ℕ) → k < a + m → AllByRecursion P (F k)) → AllByRecursion P (flat_map F (range_with_len a m))
  each_of_all P a zero h = tt
  each_of_all P a (suc m) h = each-append P (F a) (flat_map F (range_with_len (a + 1) m)) (h a (omega arith)) (each_of_all P (a + 1) m (λ k l. h k (omega arith)))

none_first : {X : Type 0} (xs : List X) → slice_get xs 0 ≡ None → xs ≡ []
none_first [] e = refl
none_first (x ∷ xs) e = absurd cc

first_has : {X : Type 0} (P : X → Type 0) (xs : List X) (x : X) → AllByRecursion P xs → slice_get xs 0 ≡ Some x → P x
first_has P [] x h e = absurd cc
first_has P (y ∷ xs) x (h, hs) e = let same : y ≡ x = cc in subst P same h

-- what is kept passes the test
pub each_kept : {X : Type 0} (P Q : X → Type 0) (f : X → Bool) → ((x : X) → P x → f x ≡ true → Q x) → (xs : List X) → AllByRecursion P xs → AllByRecursion Q (filter f xs)
each_kept P Q f h [] k = tt
each_kept P Q f h (x ∷ xs) (k, ks) = let rest = each_kept P Q f h xs ks in elim (cases_Bool (f x)) [ inl e ↦ rw e (h x k e, rest) | inr e ↦ rw e rest ]

-- ---- functions

pub first-None : (p : Signs) (m : ℕ) (fs : ℕ → Set → Bool) → ((k : ℕ) → k < m → AgreeAt p.n (fs k) (λ x. false)) → first_one p m fs ≡ None
unfolding first_one
first-None p m fs h = ap (λ us. slice_get us 0) (all_empty (λ o. filter (fs o) (points_in_order p)) 0 m (λ k l. none_passes p (fs k) (h k (omega arith))))

pub first-Some : (p : Signs) (m o : ℕ) (fs : ℕ → Set → Bool) (x : Set) → o < m → ((k : ℕ) → k < o → AgreeAt p.n (fs k) (λ x. false)) → IsLeastPoint p (fs o) x → first_one p m fs ≡ Some x
unfolding first_one
first-Some p m o fs x below h least =
    first_full (λ o. filter (fs o) (points_in_order p)) 0 m o x (omega arith) (omega arith) (λ k l. none_passes p (fs k) (h k l)) (least_passes p (fs o) x least)

pub none_one : (p : Signs) (m k : ℕ) (fs : ℕ → Set → Bool) → first_one p m fs ≡ None → k < m → AgreeAt p.n (fs k) (λ x. false)
unfolding first_one
none_one p m k fs e below = no_point p (fs k) (each_empty (λ o. filter (fs o) (points_in_order p)) 0 m k (omega arith) (omega arith) (none_first _ e))

-- a point at which one of the functions is 1
pub record IsOne (p : Signs) (m : ℕ) (fs : ℕ → Set → Bool) (x : Set) : Type 0 where
  pub is_point : IsPoint p.n x
  pub at : ℕ
  pub below : at < m
  pub holds : fs at x ≡ true

pub some_one : (p : Signs) (m : ℕ) (fs : ℕ → Set → Bool) (x : Set) → first_one p m fs ≡ Some x → IsOne p m fs x
unfolding first_one
some_one p m fs x e =
    first_has (IsOne p m fs) _ x
    (each_of_all (λ o. filter (fs o) (points_in_order p)) (IsOne p m fs) 0 m
    (λ k l. each_kept (IsPoint p.n) (IsOne p m fs) (fs k) (λ y point h. record { is_point = point; at = k; below = omega arith; holds = h }) (points_in_order p) (are_points p)))
    e
