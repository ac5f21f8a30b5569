-- The steps of sums and products of expansions.
use Rattle.std.proofs.Common.{◌≡◌, ℕ, ◌+◌, ◌<◌, Bool, true, false, ◌&&◌, List, [], ◌∷◌, ◌++◌, take, map, length, get_or, refl, sym, ap, ap₂, ◌∙◌, arith, inl, inr}
use Rattle.std.specs.Prelude.{All}
use Rattle.std.specs.List.{list_all}
use Rattle.std.proofs.lemmas.Bool.{and_parts, and_from, and_right, or_cases, or_left, or_right}
use Rattle.std.proofs.lemmas.List.{take_more}
use Rattle.std.proofs.lemmas.List.Elements.{All-append, All-from_recursion, All-get_or, All-map, All-weaker}
use Rattle.std.proofs.lemmas.List.Sums.{AllPass-from_list_all, list_all-from_AllPass}
use Rattle.std.proofs.Math.Bool.{and_comm}
use Rattle.std.proofs.Math.Seq.{take-length}
use Rattle.ae_base.specs.Mask.{Set, differ, empty, first, with, either, inside}
use Rattle.ae_base.specs.Cube.{Signs}
use Rattle.ae_base.specs.Terms.{IsInOrder, literal, product, exor_of, value}
use Rattle.ae_base.proofs.Sets.{has-empty, has-either, inside-has, has-inside, inside-from}
use Rattle.ae_base.proofs.Truth.{same_truth, differ-false, and-differ, and-over_differ}
use Rattle.ae_base.proofs.Points.{inside-put}
use Rattle.ae_base.proofs.InOrder.{from_Ordered}
use Rattle.ae_base.proofs.Exor.{exor_of-append, exor_of-map, keeps}
use Rattle.ae_base.proofs.Literals.{product-with, product-empty, product-literals, literals-product}
use Rattle.fn_store.specs.Davio.{IsExpansion}
use Rattle.fn_store.specs.Scratch.{IsReduced}
use Rattle.fn_store.proofs.Expansions.{terms_inside, means, only}
use Rattle.fn_store.proofs.Shown.{IsExpansion-agree}

-- what holds of each term holds of those that are left where equal ones have cancelled
all_reduced : (h : Set → Bool) (ts us : List Set) → IsReduced ts us → All (λ t. h t ≡ true) ts → All (λ t. h t ≡ true) us
all_reduced h ts us is all = AllPass-from_list_all h us (keeps ts us is.order is.same h (list_all-from_AllPass h ts all))

pub IsExpansion-sum : (p : Signs) (f g : Set → Bool) (ts us vs : List Set) → (IsInOrder ts → IsInOrder us → IsReduced (ts ++ us) vs) → IsExpansion p f ts → IsExpansion p g us → IsExpansion p (λ x. differ (f x) (g x)) vs
IsExpansion-sum p f g ts us vs reduced m k =
    let is = reduced m.order k.order in
    only p (λ x. differ (f x) (g x)) vs is.order
    (all_reduced (λ t. inside t (first p.n)) (ts ++ us) vs is (All-append (λ t. inside t (first p.n) ≡ true) ts us (terms_inside p f ts m) (terms_inside p g us k)))
    (λ x point. is.same (λ t. product p t x) ∙ exor_of-append (λ t. product p t x) ts us ∙ ap₂ differ (means p f ts m x point) (means p g us k x point))

-- ---- one term

one_value : (p : Signs) (t x : Set) → value p (t ∷ []) x ≡ product p t x
one_value p t x = differ-false (product p t x)

pub IsExpansion-zero : (p : Signs) → IsExpansion p (λ x. false) []
IsExpansion-zero p = only p (λ x. false) [] (from_Ordered [] tt) (All-from_recursion _ [] tt) (λ x point. refl)

one_term : (p : Signs) (f : Set → Bool) (t : Set) → inside t (first p.n) ≡ true → ((x : Set) → product p t x ≡ f x) → IsExpansion p f (t ∷ [])
one_term p f t l e = only p f (t ∷ []) (from_Ordered (t ∷ []) (tt, tt)) (All-from_recursion (λ u. inside u (first p.n) ≡ true) (t ∷ []) (l, tt)) (λ x point. one_value p t x ∙ e x)

pub IsExpansion-one : (p : Signs) → IsExpansion p (λ x. true) (empty ∷ [])
IsExpansion-one p = one_term p (λ x. true) empty (inside-from p.n empty (λ k l. has-empty k)) (product-empty p)

pub IsExpansion-literal : (p : Signs) (j : ℕ) → j < p.n → IsExpansion p (literal p j) (with empty j ∷ [])
IsExpansion-literal p j l =
    one_term p (literal p j) (with empty j) (inside-put p.n j true empty (inside-from p.n empty (λ k m. has-empty k)) l)
    (λ x. product-with p empty x j ∙ ap (λ b. literal p j x && b) (product-empty p x) ∙ and_comm (literal p j x) true)

-- ---- the product with a term

product-either : (p : Signs) (u t x : Set) → product p (either u t) x ≡ (product p t x && product p u x)
product-either p u t x =
    same_truth _ _
    (λ h. and_from _ _ (literals-product p t x (λ j m. product-literals p (either u t) x h j (has-either u t j ∙ or_right _ _ m)))
    (literals-product p u x (λ j m. product-literals p (either u t) x h j (has-either u t j ∙ or_left _ _ m))))
    (λ h. let both = and_parts _ _ h in
    literals-product p (either u t) x (λ j m. elim (or_cases _ _ (sym (has-either u t j) ∙ m)) [
      | inl e ↦ product-literals p u x both.1 j e
      | inr e ↦ product-literals p t x both.0 j e
    ]))

exor_of-both : (p : Signs) (t x : Set) (us : List Set) → exor_of (λ u. product p (either u t) x) us ≡ (product p t x && value p us x)
exor_of-both p t x [] = sym (and_right (product p t x) false refl)
exor_of-both p t x (u ∷ us) = ap₂ differ (product-either p u t x) (exor_of-both p t x us) ∙ sym (and-over_differ (product p t x) (product p u x) (value p us x))

either_below : (n : ℕ) (t u : Set) → inside t (first n) ≡ true → inside u (first n) ≡ true → inside (either u t) (first n) ≡ true
either_below n t u l h = has-inside (either u t) (first n) (λ k m. elim (or_cases _ _ (sym (has-either u t k) ∙ m)) [ inl e ↦ inside-has u (first n) h k e | inr e ↦ inside-has t (first n) l k e ])

pub IsExpansion-term : (p : Signs) (g : Set → Bool) (t : Set) (us row : List Set) → inside t (first p.n) ≡ true → IsInOrder row → ((h : Set → Bool) → exor_of h row ≡ exor_of (λ u. h (either u t)) us)
    → ((h : Set → Bool) → list_all (λ u. h (either u t)) us ≡ true → list_all h row ≡ true) → IsExpansion p g us → IsExpansion p (λ x. product p t x && g x) row
IsExpansion-term p g t us row l order same keeps m =
    only p (λ x. product p t x && g x) row order
    (AllPass-from_list_all _ row (keeps (λ u. inside u (first p.n)) (list_all-from_AllPass _ us (All-weaker _ _ (λ u h. either_below p.n t u l h) us (terms_inside p g us m)))))
    (λ x point. same (λ u. product p u x) ∙ exor_of-both p t x us ∙ ap (λ b. product p t x && b) (means p g us m x point))

-- ---- all rows

-- of each function: the product with the first i terms
pub Rows : List Set → List Set → ℕ → List Set → Type 0
Rows a b i rows = (p : Signs) (g : Set → Bool) → All (λ t. inside t (first p.n) ≡ true) a → IsExpansion p g b → IsExpansion p (λ x. value p (take i a) x && g x) rows

pub Rows-start : (a b rows : List Set) → rows ≡ [] → Rows a b 0 rows
unfolding Rows
Rows-start a b rows e p g all m = rw e (IsExpansion-zero p)

pub Rows-step : (a b rows more : List Set) (i : ℕ) (t : Set) → i < length a → t ≡ get_or a i t → Rows a b i rows
    → ((p : Signs) (f g : Set → Bool) → inside t (first p.n) ≡ true → IsExpansion p f rows → IsExpansion p g b → IsExpansion p (λ x. differ (f x) (product p t x && g x)) more) → Rows a b (i + 1) more
unfolding Rows
Rows-step a b rows more i t l read now step p g all m =
    IsExpansion-agree p (λ x. differ (value p (take i a) x && g x) (product p t x && g x)) (λ x. value p (take (i + 1) a) x && g x) more
    (λ x point. sym (and-differ (value p (take i a) x) (product p t x) (g x)) ∙ ap (λ b. b && g x) (sym (one_more x)))
    (step p (λ x. value p (take i a) x && g x) g (ap (λ u. inside u (first p.n)) read ∙ All-get_or (λ t. inside t (first p.n) ≡ true) a i t l all) (now p g all m) m)
  where
    one_more : (x : Set) → value p (take (i + 1) a) x ≡ differ (value p (take i a) x) (product p t x)
    one_more x = ap (λ us. value p us x) (take_more a i t l ∙ ap (λ u. take i a ++ u ∷ []) (sym read)) ∙ exor_of-append (λ u. product p u x) (take i a) (t ∷ []) ∙ ap (differ (value p (take i a) x)) (one_value p t x)

pub Rows-end : (a b rows : List Set) (i : ℕ) → i ≡ length a → Rows a b i rows → (p : Signs) (f g : Set → Bool) → IsExpansion p f a → IsExpansion p g b → IsExpansion p (λ x. f x && g x) rows
unfolding Rows
Rows-end a b rows i e now p f g is also =
    IsExpansion-agree p (λ x. value p (take i a) x && g x) (λ x. f x && g x) rows
    (λ x point. ap (λ b. b && g x) (ap (λ us. value p us x) (ap (λ k. take k a) e ∙ take-length a) ∙ means p f a is x point))
    (now p g (terms_inside p f a is) also)

-- the product in the other order
pub IsExpansion-turned : (p : Signs) (f g : Set → Bool) (ts : List Set) → IsExpansion p (λ x. g x && f x) ts → IsExpansion p (λ x. f x && g x) ts
IsExpansion-turned p f g ts = IsExpansion-agree p (λ x. g x && f x) (λ x. f x && g x) ts (λ x point. and_comm (g x) (f x))
