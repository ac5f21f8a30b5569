-- Products of listed functions.
use Rattle.std.proofs.Common.{rules, Bool, List, Some, add-one, ap, arith, false, get_or, inl, inr, length, not, refl, suc, sym, take, true, zero, ℕ, ◌&&◌, ◌+◌, ◌<◌, ◌||◌, ◌∙◌, ◌≡◌}
use Rattle.std.specs.List.{slice_get}
use Rattle.std.proofs.lemmas.Bool.{cases_eq, false≢true, and_parts, and_from, lt-ltb, not-true}
use Rattle.std.proofs.lemmas.List.Folds.{list_any_more}
use Rattle.std.proofs.Math.Bool.{and_assoc}
use Rattle.std.proofs.Math.Seq.{take-length}
use Rattle.ae_base.specs.Mask.{Set, has, where_below}
use Rattle.ae_base.specs.Cube.{Product, IsOver, IsProduct, holds}
use Rattle.ae_base.proofs.Sets.{has-where_below, inside-below}
use Rattle.ae_base.proofs.Products.{holds-has, has-holds}
use Rattle.ae_base.proofs.Truth.{same_truth}
use Rattle.fn_store.specs.declared.store.FnRef.{FnRef}
use Rattle.fn_store.specs.Cubes.{some_holds}
use Rattle.fn_store.specs.Functions.{Functions, IsLive, Shows, Keeps}
use Rattle.net_fn.proofs.Kept.{Shows-kept, Shows-same}
use Rattle.net_fn.specs.Literals.{agrees}
use Rattle.net_fn.specs.Refs.{AreLive, ShowEach, ones_at}
use Rattle.net_fn.proofs.References.{AreLive-kept, ShowEach-kept}

pub agrees-pos : (c : Product) (k : ℕ) (v : Bool) → IsProduct c → has c.pos k ≡ true → v ≡ agrees c k v
agrees-pos c k v is h = rw (h, is k h) (by_value v)
  where
    by_value : (v : Bool) → v ≡ ((not true || v) && (not false || not v))
    by_value true = refl
    by_value false = refl

pub agrees-neg : (c : Product) (k : ℕ) (v : Bool) → has c.pos k ≡ false → has c.neg k ≡ true → not v ≡ agrees c k v
agrees-neg c k v h e = rw (h, e) refl

-- the literals of numbers below k
pub upto : Product → (ℕ → Bool) → ℕ → Bool
upto c v zero = true
upto c v (suc k) = upto c v k && agrees c k (v k)

upto-each : (c : Product) (v : ℕ → Bool) (n : ℕ) → upto c v n ≡ true → (k : ℕ) → k < n → agrees c k (v k) ≡ true
unfolding upto
upto-each c v zero h k l = absurd (omega (arith, l))
upto-each c v (suc n) h k l =
    let parts = and_parts _ _ h in
    elim (cases_eq k n) [ inl e ↦ rw e parts.1 | inr ne ↦ upto-each c v n parts.0 k (omega (arith, l, ne)) ]

each-upto : (c : Product) (v : ℕ → Bool) (n : ℕ) → ((k : ℕ) → k < n → agrees c k (v k) ≡ true) → upto c v n ≡ true
unfolding upto
each-upto c v zero h = refl
each-upto c v (suc n) h = and_from _ _ (each-upto c v n (λ k l. h k (omega (arith, l)))) (h n (omega arith))

pos-at : (c : Product) (k : ℕ) (v : Bool) → agrees c k v ≡ true → has c.pos k ≡ true → v ≡ true
pos-at c k v h m = by_value v (rw m at h)
  where
    by_value : (v : Bool) → ((not true || v) && (not (has c.neg k) || not v)) ≡ true → v ≡ true
    by_value true h = refl
    by_value false h = h

neg-at : (c : Product) (k : ℕ) (v : Bool) → agrees c k v ≡ true → has c.neg k ≡ true → v ≡ false
neg-at c k v h m = not-true v (and_parts _ _ (rw m at h)).1

agrees-from : (c : Product) (k : ℕ) (v : Bool) → (has c.pos k ≡ true → v ≡ true) → (has c.neg k ≡ true → v ≡ false) → agrees c k v ≡ true
agrees-from c k v a b = by_values (has c.pos k) (has c.neg k) v a b
  where
    by_values : (p n v : Bool) → (p ≡ true → v ≡ true) → (n ≡ true → v ≡ false) → ((not p || v) && (not n || not v)) ≡ true
    by_values true true v a b = absurd (false≢true (sym (b refl) ∙ a refl))
    by_values true false v a b = rw (a refl) refl
    by_values false true v a b = rw (b refl) refl
    by_values false false v a b = refl

pub holds-upto : (c : Product) (v : ℕ → Bool) (n : ℕ) → IsOver n c → upto c v n ≡ holds c (where_below n v)
holds-upto c v n over =
    same_truth _ _
    (λ h. has-holds c (where_below n v) (
      λ k m. let l = inside-below n c.pos over.1 k m in at k l ∙ pos-at c k (v k) (upto-each c v n h k l) m,
      λ k m. let l = inside-below n c.neg over.2 k m in at k l ∙ neg-at c k (v k) (upto-each c v n h k l) m,
    ))
    (λ h. let each = holds-has c (where_below n v) h in
    each-upto c v n (λ k l. agrees-from c k (v k) (λ m. sym (at k l) ∙ each.0 k m) (λ m. sym (at k l) ∙ each.1 k m)))
  where
    at : (k : ℕ) → k < n → has (where_below n v) k ≡ v k
    at k l = has-where_below n v k ∙ ap (λ b. b && v k) (lt-ltb k n l)

-- what stands after the first i references
pub record Done (start now : Functions) (refs : List FnRef) (c : Product) (first all : FnRef) (i : ℕ) : Type 0 where
  pub keeps : Keeps start now
  pub live : IsLive now all
  pub shows : (f : Set → Bool) (fs : ℕ → Set → Bool) → Shows start first f → ShowEach start refs fs → Shows now all (λ x. f x && upto c (λ k. fs k x) i)

pub Done-start : (start : Functions) (refs : List FnRef) (c : Product) (first : FnRef) → Keeps start start → IsLive start first → Done start start refs c first first 0
unfolding upto
Done-start start refs c first keeps live = record { keeps = keeps; live = live; shows = λ f fs h each. Shows-same start first f (λ x. f x && true) (λ x. and-true (f x)) h }
  where
    and-true : (b : Bool) → b ≡ (b && true)
    and-true true = refl
    and-true false = refl

pub live_at : (start now : Functions) (refs : List FnRef) (i : ℕ) (r : FnRef) → AreLive start refs → Keeps start now → slice_get refs i ≡ Some r → IsLive now r
live_at start now refs i r live keeps at = keeps.live r (live.each i r at)

pub Done-step : (start now next : Functions) (refs : List FnRef) (c : Product) (first all more r : FnRef) (i : ℕ) → slice_get refs i ≡ Some r → Done start now refs c first all i
    → ((f g : Set → Bool) → Shows now all f → Shows now r g → Shows next more (λ x. f x && agrees c i (g x))) → IsLive next more → Keeps now next → Done start next refs c first more (i + 1)
unfolding upto
Done-step start now next refs c first all more r i at done step live keeps = record {
  keeps = search rules;
  live = live;
  shows = λ f fs h each.
      rw add-one
      (Shows-same next more (λ x. (f x && upto c (λ k. fs k x) i) && agrees c i (fs i x)) (λ x. f x && (upto c (λ k. fs k x) i && agrees c i (fs i x)))
      (λ x. and_assoc (f x) (upto c (λ k. fs k x) i) (agrees c i (fs i x)))
      (step (λ x. f x && upto c (λ k. fs k x) i) (fs i) (done.shows f fs h each) (Shows-kept start now done.keeps r (fs i) (each.each i r at))));
}

pub Done-end : (start now : Functions) (refs : List FnRef) (c : Product) (first all : FnRef) (i n : ℕ) → i ≡ n → IsOver n c → Done start now refs c first all i
    → (f : Set → Bool) (fs : ℕ → Set → Bool) → Shows start first f → ShowEach start refs fs → Shows now all (λ x. f x && holds c (ones_at n fs x))
Done-end start now refs c first all i n e over done f fs h each =
    Shows-same now all (λ x. f x && upto c (λ k. fs k x) i) (λ x. f x && holds c (ones_at n fs x)) (λ x. ap (λ b. f x && b) (ap (upto c (λ k. fs k x)) e ∙ holds-upto c (λ k. fs k x) n over)) (done.shows f fs h each)

-- ---- the first i products

pub record Summed (start now : Functions) (refs : List FnRef) (products : List Product) (some : FnRef) (i : ℕ) : Type 0 where
  pub keeps : Keeps start now
  pub live : IsLive now some
  pub refs_live : AreLive now refs
  pub shows : (fs : ℕ → Set → Bool) → ShowEach start refs fs → Shows now some (λ x. some_holds (take i products) (ones_at (length refs) fs x))

pub Summed-step : (start now next : Functions) (refs : List FnRef) (products : List Product) (some more : FnRef) (c : Product) (i : ℕ) → i < length products → c ≡ get_or products i c → Summed start now refs products some i
    → ((f : Set → Bool) (fs : ℕ → Set → Bool) → Shows now some f → ShowEach now refs fs → Shows next more (λ x. f x || holds c (ones_at (length refs) fs x))) → IsLive next more → Keeps now next
    → Summed start next refs products more (i + 1)
Summed-step start now next refs products some more c i l read done step live keeps = record {
  keeps = search rules;
  live = live;
  refs_live = AreLive-kept now next refs keeps done.refs_live;
  shows = λ fs each.
      Shows-same next more (λ x. some_holds (take i products) (ones_at (length refs) fs x) || holds c (ones_at (length refs) fs x)) (λ x. some_holds (take (i + 1) products) (ones_at (length refs) fs x))
      (λ x. ap (λ (d : Product). some_holds (take i products) (ones_at (length refs) fs x) || holds d (ones_at (length refs) fs x)) read
      ∙ sym (list_any_more (λ d. holds d (ones_at (length refs) fs x)) products i c l))
      (step (λ x. some_holds (take i products) (ones_at (length refs) fs x)) fs (done.shows fs each) (ShowEach-kept start now refs fs done.keeps each));
}

pub Summed-end : (start now : Functions) (refs : List FnRef) (products : List Product) (some : FnRef) (i : ℕ) → i ≡ length products → Summed start now refs products some i
    → (fs : ℕ → Set → Bool) → ShowEach start refs fs → Shows now some (λ x. some_holds products (ones_at (length refs) fs x))
Summed-end start now refs products some i e done fs each =
    let whole : take i products ≡ products = ap (λ k. take k products) e ∙ take-length products in
    Shows-same now some (λ x. some_holds (take i products) (ones_at (length refs) fs x)) (λ x. some_holds products (ones_at (length refs) fs x))
    (λ x. ap (λ (cs : List Product). some_holds cs (ones_at (length refs) fs x)) whole) (done.shows fs each)
