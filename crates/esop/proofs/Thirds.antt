-- The third literal: two literals that differ have it as their EXOR, so two near cubes can be replaced.
use Rattle.std.proofs.Common.{◌≡◌, ◌≢◌, ◌<◌, ◌∙◌, ℕ, Bool, true, false, not, cond, ◌&&◌, ◌||◌, List, [], ◌∷◌, refl, sym, ap, ap₂, arith, inl, inr, eqb, eq-eqb, ne_eqb, lt-ltb, length, slice_index, subst, ◌+◌, ◌-◌, suc, ◌++◌, take, drop, ltb}
use Rattle.std.proofs.lemmas.Bool.{cases_eq, cases_Bool, false≢true, and_from, and_parts, or_left, or_right, or_parts, cases_lt}
use Rattle.std.specs.Prelude.{Some, Option, None, remove}
use Rattle.std.specs.List.{list_any, AllByRecursion}
use Rattle.ae_base.specs.Mask.{Set, differ, has, with, without, xor, first, inside, least, len, members}
use Rattle.ae_base.specs.Cube.{Product, IsProduct, IsOver, EachHolds, holds, distance}
use Rattle.ae_base.proofs.Members.{least-first, members-has, members-increasing, len-members, len-none, len-zero, members-none}
use Rattle.ae_base.proofs.Products.{holds-has, has-holds}
use Rattle.ae_base.proofs.Sets.{same_set, has-with, has-without, has-either, has-xor, has-inside, inside-has, has-first, inside-above}
use Rattle.ae_base.proofs.Truth.{same_truth, differ-flip, differ-same, and-differ, equal_values, and-over_differ, or-false}
use Rattle.esop.specs.Links.{apart, with_third, merge, Link, link, links, links_at}
use Rattle.std.proofs.lemmas.List.{length-take-le, take-append-le, take-take, drop-append-le, drop-take, take_rest}
use Rattle.std.proofs.lemmas.List.Folds.{list_any-append}
use Rattle.esop.specs.Rewriting.{is_near}
use Rattle.esop.specs.Settled.{others}

-- ---- literals as two tests: whether the literal is plain, and whether it is complemented

-- the value of a literal
abbrev value_at : Bool → Bool → Bool → Bool
value_at p n v = (not p || v) && (not n || not v)

plain_value : (p n v : Bool) → value_at p n v ≡ true → p ≡ true → v ≡ true
plain_value p n v h e = grind arith

complemented_value : (p n v : Bool) → value_at p n v ≡ true → n ≡ true → v ≡ false
complemented_value p n v h e = grind arith

is_value : (p n v : Bool) → (p ≡ true → v ≡ true) → (n ≡ true → v ≡ false) → value_at p n v ≡ true
is_value p n v h k = grind arith

-- the third literal is the EXOR of two that differ
third_xor : (p n q m v : Bool) → (p ≡ true → n ≡ false) → (q ≡ true → m ≡ false) → (differ p q || differ n m) ≡ true
    → value_at (not (p || q)) (not (n || m)) v ≡ differ (value_at p n v) (value_at q m v)
third_xor p n q m v h k e = grind arith

-- ---- a cube split at an input

-- the value of the cube's literal of input j
abbrev literal_at : Product → ℕ → Set → Bool
literal_at c j x = value_at (has c.pos j) (has c.neg j) (has x j)

-- without a literal of input j
abbrev bare : Product → ℕ → Product
bare c j = record { pos = without c.pos j; neg = without c.neg j }

without-other : (s : Set) (j k : ℕ) → k ≢ j → has (without s j) k ≡ has s k
without-other s j k ne = has-without s j k ∙ ap (λ b. not b && has s k) (ne_eqb k j ne)

without-part : (s : Set) (j k : ℕ) → has (without s j) k ≡ true → has s k ≡ true
without-part s j k h = (and_parts (not (eqb k j)) (has s k) (sym (has-without s j k) ∙ h)).1

holds-split : (c : Product) (j : ℕ) (x : Set) → holds c x ≡ (literal_at c j x && holds (bare c j) x)
holds-split c j x = same_truth _ _ parts whole
  where
    parts : holds c x ≡ true → (literal_at c j x && holds (bare c j) x) ≡ true
    parts h =
        let each : EachHolds c x = holds-has c x h in
        and_from _ _ (is_value _ _ _ (each.0 j) (each.1 j)) (has-holds (bare c j) x ((λ k e. each.0 k (without-part c.pos j k e)), (λ k e. each.1 k (without-part c.neg j k e))))

    whole : (literal_at c j x && holds (bare c j) x) ≡ true → holds c x ≡ true
    whole h =
        let both = and_parts (literal_at c j x) (holds (bare c j) x) h in
        let each : EachHolds (bare c j) x = holds-has (bare c j) x both.1 in
        has-holds c x (
          (λ k e. elim (cases_eq k j) [
            | inl s ↦ ap (has x) s ∙ plain_value _ _ _ both.0 (ap (has c.pos) (sym s) ∙ e)
            | inr ne ↦ each.0 k (without-other c.pos j k ne ∙ e)
          ]),
          (λ k e. elim (cases_eq k j) [
            | inl s ↦ ap (has x) s ∙ complemented_value (has c.pos j) _ _ both.0 (ap (has c.neg) (sym s) ∙ e)
            | inr ne ↦ each.1 k (without-other c.neg j k ne ∙ e)
          ]),
        )

-- the cubes have the same literal of input k, or both none
pub record Agree (c d : Product) (k : ℕ) : Type 0 where
  pub pos : has c.pos k ≡ has d.pos k
  pub neg : has c.neg k ≡ has d.neg k

has-without_same : (s t : Set) (j k : ℕ) → (k ≢ j → has s k ≡ has t k) → has (without s j) k ≡ has (without t j) k
has-without_same s t j k e =
    has-without s j k ∙ elim (cases_eq k j) [
      | inl h ↦ ap (λ b. not b && has s k) (eq-eqb k j h) ∙ sym (ap (λ b. not b && has t k) (eq-eqb k j h))
      | inr ne ↦ ap (λ b. not (eqb k j) && b) (e ne)
    ] ∙ sym (has-without t j k)

bare_same : (c d : Product) (j : ℕ) → ((k : ℕ) → k ≢ j → Agree c d k) → bare c j ≡ bare d j
bare_same c d j same =
    ap₂ (λ p n. record { pos = p; neg = n }) (same_set _ _ (λ k. has-without_same c.pos d.pos j k (λ ne. (same k ne).pos))) (same_set _ _ (λ k. has-without_same c.neg d.neg j k (λ ne. (same k ne).neg)))

-- ---- the literals of two cubes

has-apart : (c d : Product) (k : ℕ) → has (apart c d) k ≡ (differ (has c.pos k) (has d.pos k) || differ (has c.neg k) (has d.neg k))
has-apart c d k = has-either (xor c.pos d.pos) (xor c.neg d.neg) k ∙ ap₂ (λ a b. a || b) (has-xor c.pos d.pos k) (has-xor c.neg d.neg k)

pub agree_at : (c d : Product) (k : ℕ) → has (apart c d) k ≡ false → Agree c d k
agree_at c d k h = let parts = or_parts _ _ (sym (has-apart c d k) ∙ h) in record { pos = equal_values _ _ parts.0; neg = equal_values _ _ parts.1 }

pub apart_back : (c d : Product) → apart c d ≡ apart d c
apart_back c d =
    same_set _ _ (λ k. has-apart c d k ∙ ap₂ (λ a b. a || b) (differ-flip (has c.pos k) (has d.pos k)) (differ-flip (has c.neg k) (has d.neg k)) ∙ sym (has-apart d c k))

-- ---- the third literal

has-third_here : (s t : Set) (j : ℕ) → has (cond (has s j || has t j) (without s j) (with s j)) j ≡ not (has s j || has t j)
has-third_here s t j = elim (cases_Bool (has s j || has t j)) [
  | inl e ↦ rw e (has-without s j j ∙ ap (λ b. not b && has s j) (eq-eqb j j refl))
  | inr e ↦ rw e (has-with s j j ∙ ap (λ b. b || has s j) (eq-eqb j j refl))
]

has-third_else : (s t : Set) (j k : ℕ) → k ≢ j → has (cond (has s j || has t j) (without s j) (with s j)) k ≡ has s k
has-third_else s t j k ne = elim (cases_Bool (has s j || has t j)) [ inl e ↦ rw e (without-other s j k ne) | inr e ↦ rw e (has-with s j k ∙ ap (λ b. b || has s k) (ne_eqb k j ne)) ]

third_agrees : (c d : Product) (j k : ℕ) → k ≢ j → Agree (with_third c d j) c k
third_agrees c d j k ne = record { pos = has-third_else c.pos d.pos j k ne; neg = has-third_else c.neg d.neg j k ne }

third_value : (c d : Product) (j : ℕ) (x : Set) → IsProduct c → IsProduct d → has (apart c d) j ≡ true → literal_at (with_third c d j) j x ≡ differ (literal_at c j x) (literal_at d j x)
third_value c d j x hc hd e =
    ap₂ (λ p n. value_at p n (has x j)) (has-third_here c.pos d.pos j) (has-third_here c.neg d.neg j)
    ∙ third_xor (has c.pos j) (has c.neg j) (has d.pos j) (has d.neg j) (has x j) (hc j) (hd j) (sym (has-apart c d j) ∙ e)

pub third_product : (c d : Product) (j : ℕ) → IsProduct c → has (apart c d) j ≡ true → IsProduct (with_third c d j)
third_product c d j hc e k m = elim (cases_eq k j) [
  | inl s ↦ ap (has (with_third c d j).neg) s ∙ has-third_here c.neg d.neg j ∙ one_plain (has c.pos j) (has d.pos j) (has c.neg j) (has d.neg j) (sym (has-apart c d j) ∙ e) (sym (has-third_here c.pos d.pos j) ∙ ap (has (with_third c d j).pos) (sym s) ∙ m)
  | inr ne ↦ has-third_else c.neg d.neg j k ne ∙ hc k (sym (has-third_else c.pos d.pos j k ne) ∙ m)
]
  where
    one_plain : (p q m r : Bool) → (differ p q || differ m r) ≡ true → not (p || q) ≡ true → not (m || r) ≡ false
    one_plain p q m r h k = grind arith

-- a cube with a third literal is a product over the same inputs
module _ (n : ℕ) (c d : Product) (j : ℕ) (hc : IsOver n c) (hd : IsOver n d) (e : has (apart c d) j ≡ true) where
  below : j < n
  below = elim (cases_lt j n) [
    | inl l ↦ l
    | inr high ↦ absurd (false≢true (sym (has-apart c d j ∙ rw (inside-above n c.pos hc.1 j high, inside-above n d.pos hd.1 j high, inside-above n c.neg hc.2 j high, inside-above n d.neg hd.2 j high) refl) ∙ e))
  ]

  part_inside : (s t : Set) → inside s (first n) ≡ true → inside (cond (has s j || has t j) (without s j) (with s j)) (first n) ≡ true
  part_inside s t h =
      has-inside _ _ (λ k m. elim (cases_eq k j) [
        | inl same ↦ ap (has (first n)) same ∙ has-first n j ∙ lt-ltb j n below
        | inr ne ↦ inside-has s (first n) h k (sym (has-third_else s t j k ne) ∙ m)
      ])

  pub third_over : IsOver n (with_third c d j)
  third_over = (third_product c d j hc.0 e, part_inside c.pos d.pos hc.1, part_inside c.neg d.neg hc.2)

-- ---- two cubes that differ at one input

merge_values : (c d : Product) (j : ℕ) (x : Set) → IsProduct c → IsProduct d → has (apart c d) j ≡ true → ((k : ℕ) → k ≢ j → has (apart c d) k ≡ false)
    → holds (with_third c d j) x ≡ differ (holds c x) (holds d x)
merge_values c d j x hc hd e rest =
    let third = bare_same (with_third c d j) c j (third_agrees c d j) in
    let other = bare_same c d j (λ k ne. agree_at c d k (rest k ne)) in
    holds-split (with_third c d j) j x
    ∙ ap₂ (λ a b. a && holds b x) (third_value c d j x hc hd e) third
    ∙ and-differ (literal_at c j x) (literal_at d j x) (holds (bare c j) x)
    ∙ ap₂ differ (sym (holds-split c j x)) (ap (λ b. literal_at d j x && holds b x) other ∙ sym (holds-split d j x))

-- ---- two cubes that differ at two inputs

-- without literals of two inputs
abbrev bare_at : Product → ℕ → ℕ → Product
bare_at c p q = bare (bare c p) q

bare_at_same : (c d : Product) (p q : ℕ) → ((k : ℕ) → k ≢ p → k ≢ q → Agree c d k) → bare_at c p q ≡ bare_at d p q
bare_at_same c d p q same =
    bare_same (bare c p) (bare d p) q (λ k ne. record {
      pos = has-without_same c.pos d.pos p k (λ other. (same k other ne).pos);
      neg = has-without_same c.neg d.neg p k (λ other. (same k other ne).neg);
    })

holds-split_at : (c : Product) (p q : ℕ) (x : Set) → p ≢ q → holds c x ≡ (literal_at c p x && (literal_at c q x && holds (bare_at c p q) x))
holds-split_at c p q x ne =
    holds-split c p x
    ∙ ap (λ b. literal_at c p x && b)
    (holds-split (bare c p) q x
    ∙ ap₂ (λ a b. value_at a b (has x q) && holds (bare_at c p q) x) (without-other c.pos p q (λ e. ne (sym e))) (without-other c.neg p q (λ e. ne (sym e))))

cancel : (x y z : Bool) → differ (differ x y) (differ z y) ≡ differ x z
cancel x y z = grind arith

link_xor : (a b a' b' r : Bool) → differ (differ a b && (a' && r)) (b && (differ b' a' && r)) ≡ differ (a && (a' && r)) (b && (b' && r))
link_xor a b a' b' r =
    ap₂ differ (and-differ a b (a' && r)) (ap (λ y. b && y) (and-differ b' a' r) ∙ and-over_differ b (b' && r) (a' && r)) ∙ cancel (a && (a' && r)) (b && (a' && r)) (b && (b' && r))

-- the EXOR of a link is that of its cubes
module _ (c d : Product) (p q : ℕ) (x : Set) (hc : IsProduct c) (hd : IsProduct d) (ne : p ≢ q) (ep : has (apart c d) p ≡ true) (eq : has (apart c d) q ≡ true)
    (rest : (k : ℕ) → k ≢ p → k ≢ q → has (apart c d) k ≡ false) where
  -- the literals of the other inputs
  common : Product
  common = bare_at c p q

  first_link : holds (with_third c d p) x ≡ (differ (literal_at c p x) (literal_at d p x) && (literal_at c q x && holds common x))
  unfolding common
  first_link =
      let kept = third_agrees c d p q (λ e. ne (sym e)) in
      holds-split_at (with_third c d p) p q x ne
      ∙ ap₂ (λ a b. a && b) (third_value c d p x hc hd ep)
      (ap₂ (λ a b. a && holds b x) (ap₂ (λ a b. value_at a b (has x q)) kept.pos kept.neg) (bare_at_same (with_third c d p) c p q (λ k other more. third_agrees c d p k other)))

  second_link : holds (with_third d c q) x ≡ (literal_at d p x && (differ (literal_at d q x) (literal_at c q x) && holds common x))
  unfolding common
  second_link =
      let kept = third_agrees d c q p ne in
      let same = bare_at_same (with_third d c q) d p q (λ k other more. third_agrees d c q k more) ∙ bare_at_same d c p q (λ k other more. agree_at d c k (ap (λ s. has s k) (apart_back d c) ∙ rest k other more)) in
      holds-split_at (with_third d c q) p q x ne
      ∙ ap₂ (λ a b. a && b) (ap₂ (λ a b. value_at a b (has x p)) kept.pos kept.neg)
      (ap₂ (λ a b. a && holds b x) (third_value d c q x hd hc (ap (λ s. has s q) (apart_back d c) ∙ eq)) same)

  other_cube : holds d x ≡ (literal_at d p x && (literal_at d q x && holds common x))
  unfolding common
  other_cube =
      holds-split_at d p q x ne
      ∙ ap (λ b. literal_at d p x && (literal_at d q x && holds b x)) (bare_at_same d c p q (λ k other more. agree_at d c k (ap (λ s. has s k) (apart_back d c) ∙ rest k other more)))

  first_cube : holds c x ≡ (literal_at c p x && (literal_at c q x && holds common x))
  unfolding common
  first_cube = holds-split_at c p q x ne

  pub link_values : differ (holds (with_third c d p) x) (holds (with_third d c q) x) ≡ differ (holds c x) (holds d x)
  link_values =
      ap₂ differ first_link second_link
      ∙ link_xor (literal_at c p x) (literal_at d p x) (literal_at c q x) (literal_at d q x) (holds common x)
      ∙ ap₂ differ (sym first_cube) (sym other_cube)

-- ---- by distance

pub distance-apart : (c d : Product) → distance c d ≡ len (apart c d)
unfolding distance
distance-apart c d = refl

pub distance_back : (c d : Product) → distance c d ≡ distance d c
distance_back c d = distance-apart c d ∙ ap len (apart_back c d) ∙ sym (distance-apart d c)

pub distance_none : (c d : Product) → distance c d ≡ 0 → c ≡ d
distance_none c d h =
    let same = λ (k : ℕ). agree_at c d k (len-zero (apart c d) (sym (distance-apart c d) ∙ h) k) in
    ap₂ (λ p n. record { pos = p; neg = n }) (same_set c.pos d.pos (λ k. (same k).pos)) (same_set c.neg d.neg (λ k. (same k).neg))

pub distance_itself : (c : Product) → distance c c ≡ 0
distance_itself c = distance-apart c c ∙ len-none (apart c c) (λ k. has-apart c c k ∙ ap₂ (λ a b. a || b) (differ-same (has c.pos k)) (differ-same (has c.neg k)))

-- the inputs at which two cubes differ, by the list of these
pub record OneApart (c d : Product) (p : ℕ) : Type 0 where
  pub there : has (apart c d) p ≡ true
  pub rest : (k : ℕ) → k ≢ p → has (apart c d) k ≡ false

pub record TwoApart (c d : Product) (p q : ℕ) : Type 0 where
  pub distinct : p ≢ q
  pub first : has (apart c d) p ≡ true
  pub second : has (apart c d) q ≡ true
  pub rest : (k : ℕ) → k ≢ p → k ≢ q → has (apart c d) k ≡ false

pub one_apart : (c d : Product) (p : ℕ) → members (apart c d) ≡ p ∷ [] → OneApart c d p
one_apart c d p e =
    let at = λ (k : ℕ). sym (members-has (apart c d) k) ∙ ap (list_any (λ m. eqb m k)) e in
    record {
      there = at p ∙ or_left (eqb p p) false (eq-eqb p p refl);
      rest = λ k ne. at k ∙ ap (λ b. b || false) (ne_eqb p k (λ s. ne (sym s)));
    }

pub two_apart : (c d : Product) (p q : ℕ) → members (apart c d) ≡ p ∷ q ∷ [] → TwoApart c d p q
two_apart c d p q e =
    let at = λ (k : ℕ). sym (members-has (apart c d) k) ∙ ap (list_any (λ m. eqb m k)) e in
    let up : p < q = subst (λ ms. slice_index ms 0 < slice_index ms 1) e (members-increasing (apart c d) 0 (omega (arith, ap length e))) in
    record {
      distinct = λ s. absurd (omega (arith, s, up));
      first = at p ∙ or_left (eqb p p) _ (eq-eqb p p refl);
      second = at q ∙ or_right (eqb p q) _ (or_left (eqb q q) false (eq-eqb q q refl));
      rest = λ k np nq. at k ∙ ap₂ (λ a b. a || (b || false)) (ne_eqb p k (λ s. np (sym s))) (ne_eqb q k (λ s. nq (sym s)));
    }

-- where the cubes have a distance, the list is that long
pub members-distance : (c d : Product) (k : ℕ) → distance c d ≡ k → length (members (apart c d)) ≡ k
members-distance c d k h = sym (len-members (apart c d)) ∙ sym (distance-apart c d) ∙ h

one_member : (ms : List ℕ) → length ms ≡ 1 → ms ≡ slice_index ms 0 ∷ []
one_member [] h = absurd (omega (arith, h))
one_member (m ∷ []) h = refl
one_member (m ∷ n ∷ ms) h = absurd (omega (arith, h))

pub one_apart_at : (c d : Product) → distance c d ≡ 1 → OneApart c d (slice_index (members (apart c d)) 0)
one_apart_at c d h = one_apart c d _ (one_member _ (members-distance c d 1 h))

-- the first of them is the least
pub first_apart : (s : Set) (j : ℕ) → least s ≡ Some j → slice_index (members s) 0 ≡ j
first_apart s j h = ap (λ ms. slice_index ms 0) (least-first s j h)

-- what two cubes at distance 1 become
pub merged_value : (c d : Product) (x : Set) → IsProduct c → IsProduct d → distance c d ≡ 1 → holds (merge c d) x ≡ differ (holds c x) (holds d x)
merged_value c d x hc hd h = let one = one_apart_at c d h in merge_values c d _ x hc hd one.there one.rest

pub merged_over : (n : ℕ) (c d : Product) → IsOver n c → IsOver n d → distance c d ≡ 1 → IsOver n (merge c d)
merged_over n c d hc hd h = third_over n c d _ hc hd (one_apart_at c d h).there

-- what a link of two cubes is
pub record IsLink (c d : Product) (l : Link) : Type 0 where
  pub value : (x : Set) → IsProduct c → IsProduct d → differ (holds l.first x) (holds l.second x) ≡ differ (holds c x) (holds d x)
  pub over : (n : ℕ) → IsOver n c → IsOver n d → IsOver n l.first × IsOver n l.second

is_link : (c d : Product) (p q : ℕ) → p ≢ q → has (apart c d) p ≡ true → has (apart c d) q ≡ true → ((k : ℕ) → k ≢ p → k ≢ q → has (apart c d) k ≡ false) → IsLink c d (link c d p q)
is_link c d p q ne ep eq rest = record {
  value = λ x hc hd. link_values c d p q x hc hd ne ep eq rest;
  over = λ n hc hd. (third_over n c d p hc hd ep, third_over n d c q hd hc (ap (λ s. has s q) (apart_back d c) ∙ eq));
}

pub are_links : (c d : Product) → AllByRecursion (IsLink c d) (links c d)
are_links c d = by (members (apart c d)) refl
  where
    by : (ms : List ℕ) → members (apart c d) ≡ ms → AllByRecursion (IsLink c d) (links_at ms c d)
    by [] e = tt
    by (p ∷ []) e = tt
    by (p ∷ q ∷ []) e =
        let two = two_apart c d p q e in
        (is_link c d p q two.distinct two.first two.second two.rest, (is_link c d q p (λ s. two.distinct (sym s)) two.second two.first (λ k nq np. two.rest k np nq), tt))
    by (p ∷ q ∷ r ∷ ms) e = tt

-- ---- What the search for a useful link reads: the two inputs at which cubes differ, and the cubes at the other places.

-- ---- the links of two cubes

no_links_at : (ms : List ℕ) (c d : Product) → length ms ≢ 2 → links_at ms c d ≡ []
no_links_at [] c d h = refl
no_links_at (p ∷ []) c d h = refl
no_links_at (p ∷ q ∷ []) c d h = absurd (h refl)
no_links_at (p ∷ q ∷ r ∷ ms) c d h = refl

pub no_links : (c d : Product) → len (apart c d) ≢ 2 → links c d ≡ []
no_links c d h = no_links_at (members (apart c d)) c d (λ e. h (len-members (apart c d) ∙ e))

-- the least member, and the least of the others, where there are two
pub record Two (s : Set) (p q : ℕ) : Type 0 where
  pub count : len s ≡ 2
  pub low : least s ≡ Some p
  pub high : least (without s p) ≡ Some q

pub none_low : (s : Set) → len s ≡ 2 → least s ≢ None
none_low s h e = absurd (omega (arith, h, len-members s, ap length (members-none s e)))

pub none_high : (s : Set) (p : ℕ) → len s ≡ 2 → least s ≡ Some p → least (without s p) ≢ None
none_high s p h e f = absurd (omega (arith, h, len-members s, ap length (least-first s p e), ap length (members-none (without s p) f)))

alone : (q : ℕ) (ms : List ℕ) → length (q ∷ ms) ≡ 1 → ms ≡ []
alone q [] h = refl
alone q (m ∷ ms) h = absurd (omega (arith, h))

two_members : (s : Set) (p q : ℕ) → Two s p q → members s ≡ p ∷ q ∷ []
two_members s p q h =
    let first : members s ≡ p ∷ members (without s p) = least-first s p h.low in
    let second : members (without s p) ≡ q ∷ members (without (without s p) q) = least-first (without s p) q h.high in
    first ∙ ap (λ ms. p ∷ ms) (second ∙ ap (λ ms. q ∷ ms) (alone q _ (omega (arith, h.count, len-members s, ap length first, ap length second))))

pub links_are : (c d : Product) (p q : ℕ) → Two (apart c d) p q → links c d ≡ link c d p q ∷ link c d q p ∷ []
links_are c d p q h = ap (λ ms. links_at ms c d) (two_members (apart c d) p q h)

-- the cubes differ at both inputs
pub both_apart : (c d : Product) (p q : ℕ) → Two (apart c d) p q → (has (apart c d) p ≡ true) × (has (apart d c) q ≡ true) × (has (apart c d) q ≡ true) × (has (apart d c) p ≡ true)
both_apart c d p q h =
    let two = two_apart c d p q (two_members (apart c d) p q h) in
    (two.first, ap (λ s. has s q) (apart_back d c) ∙ two.second, two.second, ap (λ s. has s p) (apart_back d c) ∙ two.first)

-- ---- the cubes at the other places

module _ (cs : List Product) (i j : ℕ) (order : i < j) (within : j < length cs) where
  between : List Product
  between = take (j - (i + 1)) (drop (i + 1) cs)

  after : List Product
  after = take (length cs - (j + 1)) (drop (j + 1) cs)

  others-parts : others cs i j ≡ take i cs ++ (between ++ after)
  unfolding between after
  others-parts =
      let long : length (take j cs) ≡ j = length-take-le j cs (omega arith) in
      let low : take i (remove cs j) ≡ take i cs = take-append-le i (take j cs) (drop (suc j) cs) (omega (arith, long, order)) ∙ take-take i j cs (omega (arith, order)) in
      let one : i + 1 ≡ suc i = omega arith in
      let next : j + 1 ≡ suc j = omega arith in
      let whole : (i + 1) + (j - (i + 1)) ≡ j = omega (arith, order) in
      let high : drop (suc i) (remove cs j) ≡ drop (suc i) (take j cs) ++ drop (suc j) cs = drop-append-le (suc i) (take j cs) (drop (suc j) cs) (omega (arith, long, order)) in
      let middle : drop (suc i) (take j cs) ≡ take (j - (i + 1)) (drop (i + 1) cs) =
      ap₂ (λ k n. drop k (take n cs)) (sym one) (sym whole) ∙ drop-take (i + 1) (j - (i + 1)) cs in
      ap₂ (λ xs ys. xs ++ ys) low (high ∙ ap₂ (λ xs ys. xs ++ ys) middle (ap (λ k. drop k cs) (sym next) ∙ sym (take_rest cs (j + 1))))

  near-parts : (c : Product) → is_near (others cs i j) c ≡ (is_near (take i cs) c || (is_near (take (j - (i + 1)) (drop (i + 1) cs)) c || is_near (take (length cs - (j + 1)) (drop (j + 1) cs)) c))
  unfolding between after
  near-parts c =
      let q = λ (d : Product). ltb (distance c d) 2 in
      ap (list_any q) others-parts ∙ list_any-append q (take i cs) (between ++ after) ∙ ap (λ b. list_any q (take i cs) || b) (list_any-append q between after)

  pub near_before : (c : Product) → is_near (take i cs) c ≡ true → is_near (others cs i j) c ≡ true
  near_before c h = near-parts c ∙ or_left _ _ h

  pub near_after : (c : Product) → is_near (take (length cs - (j + 1)) (drop (j + 1) cs)) c ≡ true → is_near (others cs i j) c ≡ true
  near_after c h = near-parts c ∙ or_right _ _ (or_right _ _ h)

  pub near_between : (c : Product) → is_near (take i cs) c ≡ false → is_near (take (length cs - (j + 1)) (drop (j + 1) cs)) c ≡ false
      → is_near (take (j - (i + 1)) (drop (i + 1) cs)) c ≡ is_near (others cs i j) c
  near_between c h k = sym (near-parts c ∙ ap₂ (λ a b. a || (is_near (take (j - (i + 1)) (drop (i + 1) cs)) c || b)) h k ∙ or-false _)

-- as the code finds the two inputs
pub two_found : (s t u : Set) (n p q : ℕ) (low high : Option ℕ) → t ≡ s → n ≡ len t → n ≡ 2 → low ≡ least t → low ≡ Some p → u ≡ without t p → high ≡ least u → high ≡ Some q → Two s p q
two_found s t u n p q low high same count two is_low at_low rest is_high at_high = record {
  count = ap len (sym same) ∙ sym count ∙ two;
  low = ap least (sym same) ∙ sym is_low ∙ at_low;
  high = ap (λ v. least (without v p)) (sym same) ∙ ap least (sym rest) ∙ sym is_high ∙ at_high;
}
