-- Even by a flip of the source is even by a flip of its expansions, and by a count.
use Rattle.std.proofs.Common.{◌≡◌, ◌<◌, ◌≤◌, ◌%◌, ℕ, Bool, true, false, not, ◌&&◌, ◌||◌, cond, inl, inr, List, [], ◌∷◌, length, get_or, refl, sym, ap, ap₂, ◌∙◌, arith, eqb, eq-eqb, ne_eqb, ltb}
use Rattle.std.specs.Prelude.{◌↔◌, All, Some, count_by, slice_get}
use Rattle.std.specs.List.{AllByRecursion, list_any}
use Rattle.std.proofs.lemmas.Bool.{and_parts, and_from, cases_Bool, false≢true, false_from_ne_true, lt-ltb, le-ltb, not-true}
use Rattle.std.proofs.lemmas.List.Elements.{recursion_from_All}
use Rattle.std.proofs.lemmas.Option.{slice_get-get_or, slice_get_within}
use Rattle.std.proofs.lemmas.Map.Keys.{any_passes_from_place}
use Rattle.std.proofs.Math.Bool.{and_assoc}
use Rattle.ae_base.specs.Mask.{Set, differ, has, first, inside}
use Rattle.ae_base.specs.Cube.{Signs}
use Rattle.ae_base.specs.Points.{flipped}
use Rattle.ae_base.specs.Source.{Source, on_set, IsUsed}
use Rattle.ae_base.specs.Terms.{IsPoint, literal, product, value}
use Rattle.ae_base.proofs.Points.{has-flipped}
use Rattle.ae_base.proofs.Sets.{has-where_below, inside-below, inside-from}
use Rattle.ae_base.proofs.Truth.{differ-same, differ-flip, differ-back, equal_values}
use Rattle.ae_base.proofs.Exor.{exor_of_agree, odd_count, all_or_others}
use Rattle.ae_base.proofs.Literals.{literals-product, product_false}
use Rattle.ae_base.proofs.Elements.{Passing, any_found}
use Rattle.ae_base.proofs.Distinct.{each_weaker}
use Rattle.fn_store.specs.Davio.{IsExpansion}
use Rattle.expansion.specs.Counts.{is_odd}
use Rattle.expansion.specs.Even.{all_high, IsEven, is_turned, even_inputs}
use Rattle.expansion.specs.Functions.{AreExpansions}
use Rattle.expansion.specs.Terms.{Terms, is_used, used_inputs}
use Rattle.expansion.specs.Kept.{IsTerms}

-- ---- the two points

has-all_high : (p : Signs) (k : ℕ) → k < p.n → has (all_high p) k ≡ has p.plain k
has-all_high p k l = has-where_below p.n (has p.plain) k ∙ ap (λ b. b && has p.plain k) (lt-ltb k p.n l)

above-all_high : (p : Signs) (k : ℕ) → p.n ≤ k → has (all_high p) k ≡ false
above-all_high p k l = has-where_below p.n (has p.plain) k ∙ ap (λ b. b && has p.plain k) (le-ltb k p.n l)

pub point-all_high : (p : Signs) → IsPoint p.n (all_high p)
point-all_high p = inside-from p.n (all_high p) (λ k l. above-all_high p k l)

pub point-flipped : (p : Signs) (j : ℕ) → j < p.n → IsPoint p.n (flipped j (all_high p))
point-flipped p j l = inside-from p.n (flipped j (all_high p)) (λ k m. has-flipped j (all_high p) k ∙ ap₂ differ (above-all_high p k m) (ne_eqb k j (λ e. absurd (omega (arith, e, l, m)))))

pub literal-all_high : (p : Signs) (k : ℕ) → k < p.n → literal p k (all_high p) ≡ true
literal-all_high p k l = ap (λ b. cond (has p.plain k) b (not b)) (has-all_high p k l) ∙ by_sign (has p.plain k)
  where
    by_sign : (s : Bool) → cond s s (not s) ≡ true
    by_sign true = refl
    by_sign false = refl

pub literal-flipped : (p : Signs) (j k : ℕ) → k < p.n → literal p k (flipped j (all_high p)) ≡ not (eqb k j)
literal-flipped p j k l = ap (λ b. cond (has p.plain k) b (not b)) (has-flipped j (all_high p) k ∙ ap (λ b. differ b (eqb k j)) (has-all_high p k l)) ∙ by_sign (has p.plain k) (eqb k j)
  where
    by_sign : (s b : Bool) → cond s (differ s b) (not (differ s b)) ≡ not b
    by_sign true b = refl
    by_sign false true = refl
    by_sign false false = refl

-- ---- products at the two points

product-all_high : (p : Signs) (t : Set) → inside t (first p.n) ≡ true → product p t (all_high p) ≡ true
product-all_high p t below = literals-product p t (all_high p) (λ k m. literal-all_high p k (inside-below p.n t below k m))

product-flipped : (p : Signs) (j : ℕ) (t : Set) → inside t (first p.n) ≡ true → product p t (flipped j (all_high p)) ≡ not (has t j)
product-flipped p j t below =
    elim (cases_Bool (has t j)) [
      | inl m ↦ product_false p t (flipped j (all_high p)) j m (literal-flipped p j j (inside-below p.n t below j m) ∙ ap not (eq-eqb j j refl)) ∙ ap not (sym m)
      | inr none ↦
          literals-product p t (flipped j (all_high p)) (λ k m.
          literal-flipped p j k (inside-below p.n t below k m) ∙ ap not (ne_eqb k j (λ same. false≢true (sym none ∙ ap (has t) (sym same) ∙ m))))
          ∙ ap not (sym none)
    ]

-- ---- the values of an expansion at the two points

-- the term is over the inputs
abbrev Below : Signs → Set → Type 0
Below p t = inside t (first p.n) ≡ true

-- the flip turns the value where an odd number of terms hold the input
turned_by : (p : Signs) (ts : List Set) (j : ℕ) → AllByRecursion (Below p) ts
    → value p ts (all_high p) ≡ differ (value p ts (flipped j (all_high p))) (eqb (count_by (λ t. has t j) ts % 2) 1)
turned_by p ts j below =
    exor_of_agree (λ t. product p t (all_high p)) (λ t. true) ts (each_weaker _ _ (λ t h. product-all_high p t h) ts below)
    ∙ all_or_others j ts
    ∙ ap₂ differ
    (sym (exor_of_agree (λ t. product p t (flipped j (all_high p))) (λ t. not (has t j)) ts (each_weaker _ _ (λ t h. product-flipped p j t h) ts below)))
    (odd_count (λ t. has t j) ts)

-- ---- of expansions

even-turned : (e : Terms) (k : ℕ) → has (even_inputs e) k ≡ (has (used_inputs e) k && not (is_turned e k))
unfolding even_inputs used_inputs
even-turned e k =
    has-where_below e.polarity.n (λ j. is_used e j && not (is_turned e j)) k
    ∙ sym (and_assoc (ltb k e.polarity.n) (is_used e k) (not (is_turned e k)))
    ∙ ap (λ b. b && not (is_turned e k)) (sym (has-where_below e.polarity.n (is_used e) k))

by_counts : (p : Signs) (j : ℕ) (tss : List (List Set)) → AllByRecursion (AllByRecursion (Below p)) tss
    → list_any (λ ts. differ (value p ts (all_high p)) (value p ts (flipped j (all_high p)))) tss ≡ list_any (λ ts. eqb (count_by (λ t. has t j) ts % 2) 1) tss
by_counts p j [] h = refl
by_counts p j (ts ∷ tss) (h, hs) =
    let v = value p ts (flipped j (all_high p)) in
    ap₂ (λ a b. a || b) (ap (λ d. differ d v) (turned_by p ts j h) ∙ differ-flip (differ v _) v ∙ differ-back v _) (by_counts p j tss hs)

-- the flip changes an output exactly where an expansion holds the input an odd number of times
turned-odd : (e : Terms) → IsTerms e → (j : ℕ) → is_turned e j ≡ is_odd e j
turned-odd e is j =
    by_counts e.polarity j e.outs
    (each_weaker (All (Below e.polarity)) (AllByRecursion (Below e.polarity)) (λ ts h. recursion_from_All (Below e.polarity) ts h) e.outs (recursion_from_All (All (Below e.polarity)) e.outs is.below))

-- among the used inputs the even ones are those that no expansion holds an odd number of times
pub even_counted : (e : Terms) → IsTerms e → (j : ℕ) → has (even_inputs e) j ≡ (has (used_inputs e) j && not (is_odd e j))
even_counted e is j = even-turned e j ∙ ap (λ b. has (used_inputs e) j && not b) (turned-odd e is j)

-- ---- of a source

-- An expansion means its function.
abbrev Means : Type 0
Means = (p : Signs) (f : Set → Bool) (ts : List Set) → IsExpansion p f ts → (x : Set) → IsPoint p.n x → value p ts x ≡ f x

module _ (s : Source) (p : Signs) (e : Terms) (are : AreExpansions s p e) (means : Means) (polarity : e.polarity ≡ p) where
  -- the values of an output and of its expansion are the same at both points
  abbrev turns : ℕ → List Set → Bool
  turns j ts = differ (value p ts (all_high p)) (value p ts (flipped j (all_high p)))

  turns-is : (j : ℕ) → j < p.n → (o : ℕ) (ts : List Set) → slice_get e.outs o ≡ Some ts → turns j ts ≡ differ (on_set s o (all_high p)) (on_set s o (flipped j (all_high p)))
  turns-is j l o ts there =
      let is : IsExpansion p (on_set s o) ts = are.each o ts there in
      ap₂ differ (means p (on_set s o) ts is (all_high p) (point-all_high p)) (means p (on_set s o) ts is (flipped j (all_high p)) (point-flipped p j l))

  turned-is : (j : ℕ) → is_turned e j ≡ list_any (turns j) e.outs
  turned-is j = ap (λ q. list_any (λ ts. differ (value q ts (all_high q)) (value q ts (flipped j (all_high q)))) e.outs) polarity

  kept : (j : ℕ) → j < p.n → is_turned e j ≡ false → (o : ℕ) → o < length s.outputs → on_set s o (flipped j (all_high p)) ≡ on_set s o (all_high p)
  kept j l none o within =
      let ts : List Set = get_or e.outs o [] in
      let there : slice_get e.outs o ≡ Some ts = slice_get-get_or e.outs o [] (omega (arith, are.outputs, within)) in
      sym (equal_values _ _ (sym (turns-is j l o ts there) ∙ false_from_ne_true _ (λ one. false≢true (sym none ∙ turned-is j ∙ any_passes_from_place (turns j) e.outs o ts there one))))

  not_turned : (j : ℕ) → j < p.n → ((o : ℕ) → o < length s.outputs → on_set s o (flipped j (all_high p)) ≡ on_set s o (all_high p)) → is_turned e j ≡ false
  not_turned j l same = false_from_ne_true _ (λ h.
      let at : Passing (turns j) e.outs = any_found (turns j) e.outs (sym (turned-is j) ∙ h) in
      let within : at.place < length s.outputs = omega (arith, are.outputs, slice_get_within e.outs at.place at.element at.there) in
      let high = on_set s at.place (all_high p) in
      false≢true (sym (differ-same high) ∙ ap (differ high) (sym (same at.place within)) ∙ sym (turns-is j l at.place at.element at.there) ∙ at.passes))

  pub are_even : ((j : ℕ) → (has (used_inputs e) j ≡ true) ↔ IsUsed s j) → (j : ℕ) → (has (even_inputs e) j ≡ true) ↔ IsEven s p j
  are_even used j = (
    λ h.
        let parts = and_parts _ _ (sym (even-turned e j) ∙ h) in
        let here : IsUsed s j = (used j).0 parts.0 in
        record { used = here; kept = kept j (omega (arith, are.inputs, here.is_input)) (not-true _ parts.1) },
    λ h. even-turned e j ∙ and_from _ _ ((used j).1 h.used) (ap not (not_turned j (omega (arith, are.inputs, h.used.is_input)) h.kept)),
  )
