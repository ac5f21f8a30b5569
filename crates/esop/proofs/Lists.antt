-- The lists of an ESOP: those of an expansion's cubes, and those rewritten.
use Rattle.std.proofs.Common.{◌≡◌, ◌≤◌, ◌∙◌, ℕ, suc, Bool, true, false, not, List, [], ◌∷◌, length, map, take, get_or, ◌&&◌, refl, sym, ap, ap₂, arith, inl, inr}
use Rattle.std.specs.Prelude.{All}
use Rattle.std.specs.List.{AllByRecursion, AllZip}
use Rattle.std.specs.List.Sorted.{IsSorted}
use Rattle.std.proofs.lemmas.Bool.{cases_Bool, and_parts, not-true}
use Rattle.std.proofs.lemmas.List.{length-map, take_all}
use Rattle.std.proofs.lemmas.List.Elements.{All-from_recursion, recursion_from_All, All-map, All-weaker}
use Rattle.ae_base.specs.declared.limits.TheConstants.{WIDTH}
use Rattle.ae_base.specs.Cube.{Product, Signs, IsProduct, IsOver, EachHolds, holds}
use Rattle.ae_base.specs.Mask.{Set, differ, has, both, first, inside}
use Rattle.ae_base.specs.Terms.{literal, product, value}
use Rattle.ae_base.specs.Text.{cmp_text}
use Rattle.ae_base.proofs.Distinct.{each_weaker, each-map}
use Rattle.ae_base.proofs.Literals.{product-literals, literals-product}
use Rattle.ae_base.proofs.Products.{holds-has, has-holds}
use Rattle.ae_base.proofs.Sets.{has-both, has-xor, has-inside, inside-has, inside-above, inside-from}
use Rattle.ae_base.proofs.Truth.{same_truth}
use Rattle.expansion.specs.Terms.{Terms}
use Rattle.expansion.specs.Kept.{IsTerms}
use Rattle.esop.specs.Esop.{Cubes, HasValueOf, esop_value, cube_of, esop_of}
use Rattle.esop.specs.Kept.{IsCubes, HasSameValue}
use Rattle.esop.specs.Order.{in_order}
use Rattle.esop.specs.Rewriting.{rewritten, rewritten_lists}
use Rattle.esop.specs.Search.{IsOrdered}
use Rattle.esop.specs.Settled.{IsSettled, AreSettled}
use Rattle.esop.proofs.Placed.{length-placed, each_placed, sorted_in_order}
use Rattle.esop.proofs.Steps.{rewritten_ends, rewritten_keeps}
use Rattle.esop.proofs.Steps.{settled_from}
use Rattle.esop.proofs.Steps.{Proper, Keeps}
use Rattle.esop.proofs.Placed.{value-none, value-cons, value-in_order}

-- ---- lists in pairs

zip_map : {X Y : Type 0} (R : X → Y → Type 0) (f : X → Y) (xs : List X) → AllByRecursion (λ x. R x (f x)) xs → AllZip R xs (map f xs)
zip_map R f [] h = tt
zip_map R f (x ∷ xs) (h, hs) = (h, zip_map R f xs hs)

pub all_zip_map : {X Y : Type 0} (R : X → Y → Type 0) (f : X → Y) (xs : List X) → All (λ x. R x (f x)) xs → AllZip R xs (map f xs)
all_zip_map R f xs h = zip_map R f xs (recursion_from_All (λ x. R x (f x)) xs h)

-- the lists that a loop over all of them has made
pub all_made : {X Y : Type 0} (f : X → Y) (xs items : List X) (ys : List Y) (i : ℕ) → ys ≡ map f (take i items) → length items ≤ i → items ≡ xs → ys ≡ map f xs
all_made f xs items ys i made all same = made ∙ ap (map f) (take_all i items all ∙ same)

-- ---- rewritten lists

module _ (e : Cubes) (h : IsCubes e) where
  proper_lists : All (Proper e.n) e.outs
  proper_lists k d l = record { over = recursion_from_All (IsOver e.n) _ (h.below k d l); order = h.order k d l }

  pub ordered_lists : All IsOrdered e.outs
  ordered_lists k d l = record {
    over = All-weaker (IsOver e.n) (IsOver WIDTH) (λ c over. (over.0, wide c.pos over.1, wide c.neg over.2)) _ (h.below k d l);
    order = h.order k d l;
  }
    where
      wide : (s : Set) → inside s (first e.n) ≡ true → inside s (first WIDTH) ≡ true
      wide s below = inside-from WIDTH s (λ k l. inside-above e.n s below k (omega (arith, l, h.inputs)))

  keep_lists : All (λ cs. Keeps e.n cs (rewritten cs)) e.outs
  keep_lists = All-weaker (Proper e.n) (λ cs. Keeps e.n cs (rewritten cs)) (rewritten_keeps e.n) e.outs proper_lists

  pub rewritten_cubes : IsCubes (rewritten_lists e)
  rewritten_cubes = record {
    inputs = h.inputs;
    below = All-map (All (IsOver e.n)) rewritten e.outs (λ k d l. All-from_recursion (IsOver e.n) _ (keep_lists k d l).proper.over);
    order = All-map (IsSorted cmp_text) rewritten e.outs (λ k d l. (keep_lists k d l).proper.order);
  }

  pub rewritten_values : AllZip HasSameValue e.outs (rewritten_lists e).outs
  rewritten_values = all_zip_map HasSameValue rewritten e.outs (λ k d l. (keep_lists k d l).value)

  pub rewritten_counts : AllZip (λ before after. length after ≤ length before) e.outs (rewritten_lists e).outs
  rewritten_counts = all_zip_map (λ before after. length after ≤ length before) rewritten e.outs (λ k d l. (keep_lists k d l).length)

pub rewritten_settled : (e : Cubes) → AreSettled (rewritten_lists e)
rewritten_settled e = All-map IsSettled rewritten e.outs (λ k d l. settled_from _ (rewritten_ends _))

-- ---- the cube of a term

literal_plain : (p : Signs) (j : ℕ) (x : Set) → has p.plain j ≡ true → literal p j x ≡ has x j
literal_plain p j x h = rw h refl

literal_complemented : (p : Signs) (j : ℕ) (x : Set) → has p.plain j ≡ false → literal p j x ≡ not (has x j)
literal_complemented p j x h = rw h refl

module _ (p : Signs) (t : Set) where
  has-plain : (j : ℕ) → has (cube_of p t).pos j ≡ (has t j && has p.plain j)
  has-plain j = has-both t p.plain j

  has-complemented : (j : ℕ) → has (cube_of p t).neg j ≡ differ (has t j) (has t j && has p.plain j)
  has-complemented j = has-xor t (both t p.plain) j ∙ ap (differ (has t j)) (has-both t p.plain j)

  -- a member of the term has a plain literal where the polarity has one, and a complemented one elsewhere
  plain_there : (j : ℕ) → has (cube_of p t).pos j ≡ true → (has t j ≡ true) × (has p.plain j ≡ true)
  plain_there j h = and_parts _ _ (sym (has-plain j) ∙ h)

  complemented_there : (j : ℕ) → has (cube_of p t).neg j ≡ true → (has t j ≡ true) × (has p.plain j ≡ false)
  complemented_there j h = by (has t j) (has p.plain j) (sym (has-complemented j) ∙ h)
    where
      by : (a b : Bool) → differ a (a && b) ≡ true → (a ≡ true) × (b ≡ false)
      by a b h = (grind arith, grind arith)

  is_product : IsProduct (cube_of p t)
  is_product j h = let there = plain_there j h in has-complemented j ∙ rw (there.0, there.1) refl

  each_holds : (x : Set) → product p t x ≡ true → EachHolds (cube_of p t) x
  each_holds x h = (
    (λ j m. let there = plain_there j m in sym (literal_plain p j x there.1) ∙ product-literals p t x h j there.0),
    (λ j m. let there = complemented_there j m in not-true (has x j) (sym (literal_complemented p j x there.1) ∙ product-literals p t x h j there.0)),
  )

  product_holds : (x : Set) → EachHolds (cube_of p t) x → product p t x ≡ true
  product_holds x h =
      literals-product p t x (λ j m. elim (cases_Bool (has p.plain j)) [
        | inl plain ↦ literal_plain p j x plain ∙ h.0 j (has-plain j ∙ rw (m, plain) refl)
        | inr not_plain ↦ literal_complemented p j x not_plain ∙ ap not (h.1 j (has-complemented j ∙ rw (m, not_plain) refl))
      ])

  cube-product : (x : Set) → holds (cube_of p t) x ≡ product p t x
  cube-product x = same_truth _ _ (λ h. product_holds x (holds-has _ x h)) (λ h. has-holds _ x (each_holds x h))

  cube_over : inside t (first p.n) ≡ true → IsOver p.n (cube_of p t)
  cube_over h =
      let below = inside-has t (first p.n) h in
      (is_product, has-inside _ _ (λ j m. below j (plain_there j m).0), has-inside _ _ (λ j m. below j (complemented_there j m).0))

cubes-value : (p : Signs) (ts : List Set) (x : Set) → esop_value (map (cube_of p) ts) x ≡ value p ts x
cubes-value p [] x = value-none x
cubes-value p (t ∷ ts) x = value-cons (cube_of p t) (map (cube_of p) ts) x ∙ ap₂ differ (cube-product p t x) (cubes-value p ts x)

length-in_order : (cs : List Product) → length (in_order cs) ≡ length cs
length-in_order [] = refl
length-in_order (c ∷ cs) = length-placed c (in_order cs) ∙ ap suc (length-in_order cs)

each_in_order : (P : Product → Type 0) (cs : List Product) → AllByRecursion P cs → AllByRecursion P (in_order cs)
each_in_order P [] h = tt
each_in_order P (c ∷ cs) (h, hs) = each_placed P c (in_order cs) h (each_in_order P cs hs)

-- ---- the lists of cubes of an expansion

-- the cubes of an output's terms
abbrev cubes_of : Signs → List Set → List Product
cubes_of p ts = in_order (map (cube_of p) ts)

list_over : (p : Signs) (ts : List Set) → All (λ t. inside t (first p.n) ≡ true) ts → All (IsOver p.n) (cubes_of p ts)
list_over p ts h =
    All-from_recursion (IsOver p.n) (cubes_of p ts)
    (each_in_order (IsOver p.n) (map (cube_of p) ts)
    (each-map (IsOver p.n) (cube_of p) ts (each_weaker (λ t. inside t (first p.n) ≡ true) (λ t. IsOver p.n (cube_of p t)) (cube_over p) ts (recursion_from_All (λ t. inside t (first p.n) ≡ true) ts h))))

pub made_cubes : (e : Terms) → IsTerms e → IsCubes (esop_of e)
made_cubes e h = record {
  inputs = h.signs.0;
  below = All-map (All (IsOver e.polarity.n)) (cubes_of e.polarity) e.outs (λ k d l. list_over e.polarity _ (h.below k d l));
  order = All-map (IsSorted cmp_text) (cubes_of e.polarity) e.outs (λ k d l. sorted_in_order (map (cube_of e.polarity) (get_or e.outs k d)));
}

pub made_values : (e : Terms) → AllZip (HasValueOf e.polarity) e.outs (esop_of e).outs
made_values e = all_zip_map (HasValueOf e.polarity) (cubes_of e.polarity) e.outs (λ k d l x. value-in_order (map (cube_of e.polarity) (get_or e.outs k d)) x ∙ cubes-value e.polarity (get_or e.outs k d) x)

pub made_counts : (e : Terms) → AllZip (λ terms cubes. length cubes ≡ length terms) e.outs (esop_of e).outs
made_counts e = all_zip_map (λ terms cubes. length cubes ≡ length terms) (cubes_of e.polarity) e.outs (λ k d l. length-in_order (map (cube_of e.polarity) (get_or e.outs k d)) ∙ length-map (get_or e.outs k d) (cube_of e.polarity))
