-- Lists of terms that are split at an input: which function they have, and which inputs they hold.
use Rattle.std.proofs.Common.{◌≡◌, ◌≢◌, ℕ, ◌+◌, ◌<◌, ◌%◌, Bool, true, false, not, ◌&&◌, ◌||◌, ◌⊎◌, cond, inl, inr, List, [], ◌∷◌, map, length, refl, sym, ap, ap₂, ◌∙◌, arith, eqb, eq-eqb, get_or, ne_eqb, subst}
use Rattle.std.specs.Prelude.{All, filter, count_by}
use Rattle.std.specs.List.{AllByRecursion}
use Rattle.std.proofs.lemmas.Bool.{cases_eq, false≢true}
use Rattle.std.proofs.lemmas.List.{get_or_read_under}
use Rattle.std.proofs.lemmas.List.Elements.{recursion_from_All, All-from_recursion}
use Rattle.std.proofs.lemmas.List.Sums.{sum_by-cons}
use Rattle.std.proofs.lemmas.Option.{slice_get-get_or, slice_get_within}
use Rattle.ae_base.specs.Mask.{Set, differ, has, first, inside, with, without}
use Rattle.ae_base.specs.Cube.{Signs}
use Rattle.ae_base.specs.Source.{Source, on_set}
use Rattle.ae_base.specs.Terms.{IsPoint, literal, product, value}
use Rattle.ae_base.proofs.Exor.{odd_count}
use Rattle.ae_base.proofs.Literals.{literals-product, product-with}
use Rattle.ae_base.proofs.Sets.{same_set, has-with, inside-below}
use Rattle.ae_base.proofs.Truth.{differ-assoc, differ-front}
use Rattle.expansion.specs.Functions.{AreExpansions}
use Rattle.expansion.specs.Terms.{Terms}
use Rattle.fn_store.specs.Davio.{IsExpansion}
use Rattle.fn_store.specs.declared.store.FnRef.{FnRef}
use Rattle.fn_store.specs.Functions.{Functions, Shows, AgreeAt}
use Rattle.net_fn.proofs.Cofactors.{without-other, without-member}
use Rattle.net_fn.specs.Refs.{ShowEach}
use Rattle.net_fn.specs.Splits.{lacking, holding, IsBetween, AreBetween}

-- ---- the function

without-with : (t : Set) (j : ℕ) → has t j ≡ true → with (without t j) j ≡ t
without-with t j m =
    same_set _ _ (λ k. has-with (without t j) j k ∙ elim (cases_eq k j) [
      | inl e ↦ ap (λ b. b || has (without t j) k) (eq-eqb k j e) ∙ sym m ∙ ap (has t) (sym e)
      | inr ne ↦ ap (λ b. b || has (without t j) k) (ne_eqb k j ne) ∙ without-other t j k ne
    ])

product-without : (p : Signs) (t x : Set) (j : ℕ) → has t j ≡ true → product p t x ≡ (literal p j x && product p (without t j) x)
product-without p t x j m = ap (λ u. product p u x) (sym (without-with t j m)) ∙ product-with p (without t j) x j

and-false : (b : Bool) → (b && false) ≡ false
and-false true = refl
and-false false = refl

-- a term that holds the input
add_with : (l a low high : Bool) → differ (l && a) (differ low (l && high)) ≡ differ low (l && differ a high)
add_with true a low high = differ-front a low high
add_with false a low high = refl

-- the terms without the input, EXOR the input's literal times those with it
pub value-split : (p : Signs) (j : ℕ) (x : Set) (ts : List Set) → differ (value p (lacking j ts) x) (literal p j x && value p (holding j ts) x) ≡ value p ts x
value-split p j x [] = and-false (literal p j x)
value-split p j x (t ∷ ts) = by_test (has t j) refl (value-split p j x ts)
  where
    by_test : (b : Bool) → has t j ≡ b → differ (value p (lacking j ts) x) (literal p j x && value p (holding j ts) x) ≡ value p ts x
        → differ (value p (cond (not b) (t ∷ lacking j ts) (lacking j ts)) x) (literal p j x && value p (map (λ u. without u j) (cond b (t ∷ filter (λ u. has u j) ts) (filter (λ u. has u j) ts))) x)
        ≡ differ (product p t x) (value p ts x)
    by_test true m rest =
        sym (add_with (literal p j x) (product p (without t j) x) (value p (lacking j ts) x) (value p (holding j ts) x))
        ∙ ap₂ differ (sym (product-without p t x j m)) rest
    by_test false m rest = differ-assoc (product p t x) (value p (lacking j ts) x) (literal p j x && value p (holding j ts) x) ∙ ap (differ (product p t x)) rest

-- terms without inputs are 1 each
value-none : (p : Signs) (n : ℕ) (x : Set) (ts : List Set) → AreBetween n n ts → eqb (length ts % 2) 1 ≡ value p ts x
value-none p n x ts are = ap (λ k. eqb (k % 2) 1) (sym (all_count ts (recursion_from_All (IsBetween n n) ts are.each))) ∙ sym (odd_count (λ t. product p t x) ts)
  where
    one : (t : Set) → IsBetween n n t → product p t x ≡ true
    one t none = literals-product p t x (λ k m. let l = none k m in absurd (omega (arith, l.0, l.1)))

    all_count : (us : List Set) → AllByRecursion (IsBetween n n) us → count_by (λ t. product p t x) us ≡ length us
    all_count [] h = refl
    all_count (u ∷ us) (h, hs) = sum_by-cons (λ t. cond (product p t x) 1 0) u us ∙ ap₂ (λ b k. cond b 1 0 + k) (one u h) (all_count us hs) ∙ omega arith

-- at the end of the inputs, or where there is no term
pub value-end : (p : Signs) (j n : ℕ) (x : Set) (ts : List Set) → AreBetween j n ts → (length ts ≡ 0) ⊎ (j ≡ n) → eqb (length ts % 2) 1 ≡ value p ts x
value-end p j n x [] are ends = refl
value-end p j n x (t ∷ ts) are (inl none) = absurd (omega (arith, none))
value-end p j n x (t ∷ ts) are (inr e) = value-none p n x (t ∷ ts) (subst (λ k. AreBetween k n (t ∷ ts)) e are)

-- ---- the inputs

pub all_between : (n : ℕ) (ts : List Set) → All (λ t. inside t (first n) ≡ true) ts → AreBetween 0 n ts
all_between n ts below = record { each = All-from_recursion (IsBetween 0 n) ts (each ts (recursion_from_All (λ t. inside t (first n) ≡ true) ts below)) }
  where
    each : (us : List Set) → AllByRecursion (λ t. inside t (first n) ≡ true) us → AllByRecursion (IsBetween 0 n) us
    each [] h = tt
    each (u ∷ us) (h, hs) = (λ k m. (omega arith, inside-below n u h k m), each us hs)

past : (t : Set) (j n : ℕ) → IsBetween j n t → ((k : ℕ) → has t k ≡ true → k ≢ j) → IsBetween (j + 1) n t
past t j n is apart k m = let l = is k m in (omega (arith, l.0, apart k m), l.1)

pub lacking-between : (j n : ℕ) (ts : List Set) → AreBetween j n ts → AreBetween (j + 1) n (lacking j ts)
lacking-between j n ts are = record { each = All-from_recursion (IsBetween (j + 1) n) (lacking j ts) (each ts (recursion_from_All (IsBetween j n) ts are.each)) }
  where
    each : (us : List Set) → AllByRecursion (IsBetween j n) us → AllByRecursion (IsBetween (j + 1) n) (lacking j us)
    each [] h = tt
    each (u ∷ us) (h, hs) = by_test (has u j) refl (each us hs)
      where
        by_test : (b : Bool) → has u j ≡ b → AllByRecursion (IsBetween (j + 1) n) (lacking j us) → AllByRecursion (IsBetween (j + 1) n) (cond (not b) (u ∷ lacking j us) (lacking j us))
        by_test true m rest = rest
        by_test false out rest = (past u j n h (λ k m e. false≢true (sym out ∙ ap (has u) (sym e) ∙ m)), rest)

pub holding-between : (j n : ℕ) (ts : List Set) → AreBetween j n ts → AreBetween (j + 1) n (holding j ts)
holding-between j n ts are = record { each = All-from_recursion (IsBetween (j + 1) n) (holding j ts) (each ts (recursion_from_All (IsBetween j n) ts are.each)) }
  where
    one : (u : Set) → IsBetween j n u → IsBetween (j + 1) n (without u j)
    one u h = past (without u j) j n (λ k m. h k (without-member u j k m).1) (λ k m. (without-member u j k m).0)

    each : (us : List Set) → AllByRecursion (IsBetween j n) us → AllByRecursion (IsBetween (j + 1) n) (holding j us)
    each [] h = tt
    each (u ∷ us) (h, hs) = by_test (has u j) (each us hs)
      where
        by_test : (b : Bool) → AllByRecursion (IsBetween (j + 1) n) (holding j us)
            → AllByRecursion (IsBetween (j + 1) n) (map (λ t. without t j) (cond b (u ∷ filter (λ t. has t j) us) (filter (λ t. has t j) us)))
        by_test true rest = (one u h, rest)
        by_test false rest = rest

-- ---- the functions of a source

pub source-shown : (s : Functions) (refs : List FnRef) (e : Terms) → ((r : FnRef) (f g : Set → Bool) → AgreeAt s.polarity.n f g → Shows s r f → Shows s r g)
    → ((p : Signs) (f : Set → Bool) (ts : List Set) → IsExpansion p f ts → (x : Set) → IsPoint p.n x → value p ts x ≡ f x)
    → s.polarity.n ≡ e.polarity.n → length refs ≡ length e.outs → ShowEach s refs (λ o. value e.polarity (get_or e.outs o [])) → (source : Source) → AreExpansions source e.polarity e → ShowEach s refs (on_set source)
source-shown s refs e agree meaning inputs count shows source are = record {
  each = λ o r at.
      let within : o < length e.outs = omega (arith, slice_get_within refs o r at, count) in
      let is = are.each o (get_or e.outs o []) (slice_get-get_or e.outs o [] within) in
      agree r (value e.polarity (get_or e.outs o [])) (on_set source o)
      (λ x point. meaning e.polarity (on_set source o) (get_or e.outs o []) is x (subst (λ n. IsPoint n x) inputs point)) (shows.each o r at);
}

-- a list of an expansion, as a loop over the lists reads it
pub list_read : (lists items : List (List Set)) (k : ℕ) (item ts : List Set) → items ≡ lists → item ≡ get_or items k item → k < length items → ts ≡ item → ts ≡ get_or lists k []
list_read lists items k item ts same read within is = is ∙ get_or_read_under items k (length items) item [] read within refl ∙ ap (λ ls. get_or ls k []) same
