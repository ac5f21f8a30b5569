-- Two places by their first input, and the operations by the parts.
use Rattle.std.proofs.Common.{◌≡◌, ◌≢◌, ℕ, ◌+◌, ◌-◌, ◌*◌, ◌<◌, ◌≤◌, min, Bool, true, false, not, ◌&&◌, ◌⊎◌, inl, inr, List, refl, ap, ap₂, sym, ◌∙◌, arith, rules}
use Rattle.std.proofs.Math.Bool.{and-true, and_self}
use Rattle.std.proofs.lemmas.Bool.{and_right, cases_lt}
use Rattle.ae_base.specs.Mask.{Set, differ}
use Rattle.ae_base.specs.Cube.{Signs}
use Rattle.ae_base.specs.Terms.{literal}
use Rattle.ae_base.proofs.Truth.{differ-same, differ-false, differ-back, differ-swap, and-differ}
use Rattle.davio_dd.specs.declared.node.Node.{Node}
use Rattle.davio_dd.specs.Diagram.{place_value, top, IsDiagram, IsPlace, IsAnswer, product}
use Rattle.davio_dd.specs.Scratch.{AreParts, IsNode, IsPart, IsSplit, IsLater, IsHigh}
use Rattle.davio_dd.proofs.Places.{value-zero, value-one, top-constant, place-cases}
use Rattle.davio_dd.proofs.Canonical.{top-place, parts}
use Rattle.davio_dd.proofs.Growing.{Moved, Moved-trans, place-moved, top-moved, value-moved, answer-moved, later-moved}

-- ---- tops

-- a constant tests no input, a node tests one
top-cases : (n : ℕ) (nodes : List Node) → IsDiagram n nodes → (at : ℕ) → IsPlace nodes at → ((at < 2) × (top n nodes at ≡ n)) ⊎ (top n nodes at < n)
top-cases n nodes is at place = elim (place-cases nodes at place) [
  | inl l ↦ inl (l, top-constant n nodes at l)
  | inr c ↦ inr (omega (arith, top-place n nodes is at c, (parts n nodes is at c).below))
]

top-within : (n : ℕ) (nodes : List Node) → IsDiagram n nodes → (at : ℕ) → IsPlace nodes at → top n nodes at ≤ n
top-within n nodes is at place = elim (top-cases n nodes is at place) [ inl h ↦ omega (arith, h.1) | inr l ↦ omega (arith, l) ]

-- of two places that are no constant 0 and differ, one tests an input
pub first-below : (n : ℕ) (nodes : List Node) → IsDiagram n nodes → (a b : ℕ) → IsPlace nodes a → IsPlace nodes b → 0 < a → 0 < b → (a ≢ b) → min (top n nodes a) (top n nodes b) < n
first-below n nodes is a b pa pb some other apart = elim (top-cases n nodes is a pa) [
  | inr l ↦ omega (arith, l)
  | inl h ↦ elim (top-cases n nodes is b pb) [ inr l ↦ omega (arith, l) | inl k ↦ absurd (omega (arith, h.0, k.0, apart)) ]
]

-- ---- parts

pub split-parts : (p : Signs) (nodes : List Node) (a b input al ah bl bh : ℕ) → input ≡ min (top p.n nodes a) (top p.n nodes b) → input < p.n → IsPart p nodes a input al ah → IsPart p nodes b input bl bh
    → IsSplit p nodes a b input al ah bl bh
split-parts p nodes a b input al ah bl bh first below l r = record {
  left = l;
  right = r;
  below = below;
  least = λ j x y. omega arith;
  low_falls = elim (cases_lt (top p.n nodes a) (top p.n nodes b)) [ inl m ↦ omega (arith, l.low_falls (omega (arith, m)), r.low_le) | inr m ↦ omega (arith, r.low_falls (omega (arith, m)), l.low_le) ];
}

-- the parts test later inputs alone
pub later-parts : (p : Signs) (nodes : List Node) (a b i al ah bl bh : ℕ) → IsSplit p nodes a b i al ah bl bh → IsPlace nodes a → IsPlace nodes b → AreParts p.n nodes i al ah bl bh
later-parts p nodes a b i al ah bl bh s pa pb = record {
  below = s.below;
  left_low = record { place = omega (arith, pa, s.left.low_le); over = s.left.over_low };
  left_high = record { place = omega (arith, pa, s.left.high_le); over = s.left.over_high };
  right_low = record { place = omega (arith, pb, s.right.low_le); over = s.right.over_low };
  right_high = record { place = omega (arith, pb, s.right.high_le); over = s.right.over_high };
}

pub parts-moved : (p q : Signs) (n m : List Node) → Moved p n q m → (i al ah bl bh : ℕ) → AreParts p.n n i al ah bl bh → AreParts q.n m i al ah bl bh
parts-moved p q n m moved i al ah bl bh are = record {
  below = rw moved.0 are.below;
  left_low = later-moved p q n m moved i al are.left_low;
  left_high = later-moved p q n m moved i ah are.left_high;
  right_low = later-moved p q n m moved i bl are.right_low;
  right_high = later-moved p q n m moved i bh are.right_high;
}

-- ---- answers

module _ (op : Bool → Bool → Bool) (p : Signs) (nodes : List Node) where
  -- one of the two places, or the constant 0, where its value is that of the operation
  pub answer-left : (a b : ℕ) → IsPlace nodes a → IsPlace nodes b → ((x : Set) → op (place_value p nodes a x) (place_value p nodes b x) ≡ place_value p nodes a x) → IsAnswer op p nodes a b a
  answer-left a b pa pb is = record { left_place = pa; right_place = pb; place = pa; is = λ x. sym (is x); over = λ j la lb. la }

  pub answer-right : (a b : ℕ) → IsPlace nodes a → IsPlace nodes b → ((x : Set) → op (place_value p nodes a x) (place_value p nodes b x) ≡ place_value p nodes b x) → IsAnswer op p nodes a b b
  answer-right a b pa pb is = record { left_place = pa; right_place = pb; place = pb; is = λ x. sym (is x); over = λ j la lb. lb }

  pub answer-zero : (a b : ℕ) → IsDiagram p.n nodes → IsPlace nodes a → IsPlace nodes b → ((x : Set) → op (place_value p nodes a x) (place_value p nodes b x) ≡ false) → IsAnswer op p nodes a b 0
  answer-zero a b diagram pa pb is = record {
    left_place = pa;
    right_place = pb;
    place = omega arith;
    is = λ x. value-zero p nodes x ∙ sym (is x);
    over = λ j la lb. omega (arith, top-constant p.n nodes 0 (omega arith), top-within p.n nodes diagram a pa);
  }

  -- the answer for later places is later
  pub answer-later : (i u v r : ℕ) → IsLater p.n nodes i u → IsLater p.n nodes i v → IsAnswer op p nodes u v r → IsLater p.n nodes i r
  answer-later i u v r lu lv is = record { place = is.place; over = is.over i lu.over lv.over }

-- the value of a place, by its parts as they are later
part-value : (p p2 p3 : Signs) (n0 n2 n3 : List Node) → Moved p n0 p2 n2 → Moved p2 n2 p3 n3 → (at i low high : ℕ) → IsPart p n0 at i low high → IsPlace n0 at
    → (x : Set) → place_value p3 n3 at x ≡ differ (place_value p2 n2 low x) (literal p2 i x && place_value p2 n2 high x)
part-value p p2 p3 n0 n2 n3 m2 m3 at i low high part place x =
    value-moved p p3 n0 n3 (Moved-trans p p2 p3 n0 n2 n3 m2 m3) at place x
    ∙ part.is x
    ∙ sym (ap (λ (s : Signs). differ (place_value p2 n2 low x) (literal s i x && place_value p2 n2 high x)) m2.0
    ∙ ap₂ (λ u v. differ u (literal p i x && v)) (value-moved p p2 n0 n2 m2 low (omega (arith, place, part.low_le)) x) (value-moved p p2 n0 n2 m2 high (omega (arith, place, part.high_le)) x))

-- an operation by the parts of its operands
by_literal : (op : Bool → Bool → Bool) (l al ah bl bh : Bool) → differ (op al bl) (l && differ (op al bl) (op (differ al ah) (differ bl bh))) ≡ op (differ al (l && ah)) (differ bl (l && bh))
by_literal op false al ah bl bh = differ-false _ ∙ sym (ap₂ op (differ-false al) (differ-false bl))
by_literal op true al ah bl bh = differ-back _ _

-- A node over the answer for the low parts and over the high part of the operation is the answer for the places.
pub answer-step : (op : Bool → Bool → Bool) (p p1 p2 p3 : Signs) (n0 n1 n2 n3 : List Node) (a b i al ah bl bh low high r : ℕ) → Moved p n0 p1 n1 → Moved p1 n1 p2 n2 → Moved p2 n2 p3 n3
    → IsSplit p n0 a b i al ah bl bh → IsPlace n0 a → IsPlace n0 b → IsAnswer op p1 n1 al bl low → IsHigh op p2 n2 i al ah bl bh high → IsPlace n3 r → i ≤ top p3.n n3 r
    → ((x : Set) → place_value p3 n3 r x ≡ differ (place_value p2 n2 low x) (literal p2 i x && place_value p2 n2 high x)) → IsAnswer op p3 n3 a b r
answer-step op p p1 p2 p3 n0 n1 n2 n3 a b i al ah bl bh low high r m1 m2 m3 s pa pb is_low is_high place over value =
    let m12 = Moved-trans p p1 p2 n0 n1 n2 m1 m2 in
    let m = Moved-trans p p2 p3 n0 n2 n3 m12 m3 in
    let low_is = answer-moved op p1 p2 n1 n2 m2 al bl low is_low in
    record {
      left_place = place-moved p p3 n0 n3 m a pa;
      right_place = place-moved p p3 n0 n3 m b pb;
      place = place;
      is = λ x.
          value x
          ∙ ap₂ (λ u v. differ u (literal p2 i x && v)) (low_is.is x) (is_high.is x)
          ∙ by_literal op (literal p2 i x) (place_value p2 n2 al x) (place_value p2 n2 ah x) (place_value p2 n2 bl x) (place_value p2 n2 bh x)
          ∙ ap₂ op (sym (part-value p p2 p3 n0 n2 n3 m12 m3 a i al ah s.left pa x)) (sym (part-value p p2 p3 n0 n2 n3 m12 m3 b i bl bh s.right pb x));
      over = λ j la lb. omega (arith, over, s.least j (omega (arith, la, top-moved p p3 n0 n3 m a pa)) (omega (arith, lb, top-moved p p3 n0 n3 m b pb)));
    }

-- ---- EXOR

pub at-zero : (p : Signs) (nodes : List Node) (a : ℕ) → a ≡ 0 → (x : Set) → place_value p nodes a x ≡ false
at-zero p nodes a e x = ap (λ (c : ℕ). place_value p nodes c x) e ∙ value-zero p nodes x

pub at-one : (p : Signs) (nodes : List Node) (a : ℕ) → a ≡ 1 → (x : Set) → place_value p nodes a x ≡ true
at-one p nodes a e x = ap (λ (c : ℕ). place_value p nodes c x) e ∙ value-one p nodes x

-- the EXOR of the high parts is the high part of the EXOR
high-sum : (p : Signs) (nodes : List Node) (i al ah bl bh r : ℕ) → AreParts p.n nodes i al ah bl bh → IsAnswer differ p nodes ah bh r → IsHigh differ p nodes i al ah bl bh r
high-sum p nodes i al ah bl bh r parts is = record {
  later = answer-later differ p nodes i ah bh r parts.left_high parts.right_high is;
  is = λ x. is.is x ∙ sym (swapped (place_value p nodes al x) (place_value p nodes ah x) (place_value p nodes bl x) (place_value p nodes bh x));
}
  where
    swapped : (al ah bl bh : Bool) → differ (differ al bl) (differ (differ al ah) (differ bl bh)) ≡ differ ah bh
    swapped al ah bl bh = ap (differ (differ al bl)) (differ-swap al ah bl bh) ∙ differ-back (differ al bl) (differ ah bh)

-- so the step of EXOR asks for the answer for the high parts
pub sum-step : (p p1 p2 p3 : Signs) (n0 n1 n2 n3 : List Node) (a b i al ah bl bh low high r : ℕ) → Moved p n0 p1 n1 → Moved p1 n1 p2 n2 → Moved p2 n2 p3 n3
    → IsSplit p n0 a b i al ah bl bh → IsPlace n0 a → IsPlace n0 b → IsAnswer differ p1 n1 al bl low → IsAnswer differ p2 n2 ah bh high → IsPlace n3 r → i ≤ top p3.n n3 r
    → ((x : Set) → place_value p3 n3 r x ≡ differ (place_value p2 n2 low x) (literal p2 i x && place_value p2 n2 high x)) → IsAnswer differ p3 n3 a b r
sum-step p p1 p2 p3 n0 n1 n2 n3 a b i al ah bl bh low high r m1 m2 m3 s pa pb is_low is_high =
    let now = parts-moved p p2 n0 n2 (Moved-trans p p1 p2 n0 n1 n2 m1 m2) i al ah bl bh (later-parts p n0 a b i al ah bl bh s pa pb) in
    answer-step differ p p1 p2 p3 n0 n1 n2 n3 a b i al ah bl bh low high r m1 m2 m3 s pa pb is_low (high-sum p2 n2 i al ah bl bh high now is_high)

-- ---- products

-- The high part of a product: where one high part is the constant 0, the product of the other one with that place's low part,
pub high-right_none : (p p1 : Signs) (n0 n1 : List Node) (i al ah bl bh r : ℕ) → Moved p n0 p1 n1 → AreParts p.n n0 i al ah bl bh → bh ≡ 0 → IsAnswer product p1 n1 ah bl r → IsHigh product p1 n1 i al ah bl bh r
high-right_none p p1 n0 n1 i al ah bl bh r m parts none is = record {
  later = let now = parts-moved p p1 n0 n1 m i al ah bl bh parts in answer-later product p1 n1 i ah bl r now.left_high now.right_low is;
  is = λ x. is.is x ∙ sym (at_none (place_value p1 n1 al x) (place_value p1 n1 ah x) (place_value p1 n1 bl x) (place_value p1 n1 bh x) (at-zero p1 n1 bh none x));
}
  where
    at_none : (al ah bl bh : Bool) → bh ≡ false → differ (al && bl) (differ al ah && differ bl bh) ≡ (ah && bl)
    at_none al ah bl bh e = ap (λ b. differ (al && bl) (differ al ah && b)) (ap (differ bl) e ∙ differ-false bl) ∙ ap (differ (al && bl)) (and-differ al ah bl) ∙ differ-back (al && bl) (ah && bl)

pub high-left_none : (p p1 : Signs) (n0 n1 : List Node) (i al ah bl bh r : ℕ) → Moved p n0 p1 n1 → AreParts p.n n0 i al ah bl bh → ah ≡ 0 → IsAnswer product p1 n1 al bh r → IsHigh product p1 n1 i al ah bl bh r
high-left_none p p1 n0 n1 i al ah bl bh r m parts none is = record {
  later = let now = parts-moved p p1 n0 n1 m i al ah bl bh parts in answer-later product p1 n1 i al bh r now.left_low now.right_high is;
  is = λ x. is.is x ∙ sym (at_none (place_value p1 n1 al x) (place_value p1 n1 ah x) (place_value p1 n1 bl x) (place_value p1 n1 bh x) (at-zero p1 n1 ah none x));
}
  where
    at_none : (al ah bl bh : Bool) → ah ≡ false → differ (al && bl) (differ al ah && differ bl bh) ≡ (al && bh)
    at_none true ah bl bh e = ap (λ a. differ bl (not a && differ bl bh)) e ∙ differ-back bl bh
    at_none false ah bl bh e = ap (λ a. a && differ bl bh) e

-- else by the two products
pub high-both : (p p1 p2 p3 p4 : Signs) (n0 n1 n2 n3 n4 : List Node) (i al ah bl bh low a_one b_one one r : ℕ) → Moved p n0 p1 n1 → Moved p1 n1 p2 n2 → Moved p2 n2 p3 n3 → Moved p3 n3 p4 n4 → AreParts p.n n0 i al ah bl bh
    → IsAnswer product p n0 al bl low → IsAnswer differ p1 n1 al ah a_one → IsAnswer differ p2 n2 bl bh b_one → IsAnswer product p3 n3 a_one b_one one → IsAnswer differ p4 n4 low one r → IsHigh product p4 n4 i al ah bl bh r
high-both p p1 p2 p3 p4 n0 n1 n2 n3 n4 i al ah bl bh low a_one b_one one r m1 m2 m3 m4 parts is_low is_a is_b is_one is =
    let m24 = Moved-trans p2 p3 p4 n2 n3 n4 m3 m4 in
    let m14 = Moved-trans p1 p2 p4 n1 n2 n4 m2 m24 in
    let m04 = Moved-trans p p1 p4 n0 n1 n4 m1 m14 in
    let now = parts-moved p p4 n0 n4 m04 i al ah bl bh parts in
    let first = answer-moved product p p4 n0 n4 m04 al bl low is_low in
    let left = answer-moved differ p1 p4 n1 n4 m14 al ah a_one is_a in
    let right = answer-moved differ p2 p4 n2 n4 m24 bl bh b_one is_b in
    let both = answer-moved product p3 p4 n3 n4 m4 a_one b_one one is_one in
    let later_a = answer-later differ p4 n4 i al ah a_one now.left_low now.left_high left in
    let later_b = answer-later differ p4 n4 i bl bh b_one now.right_low now.right_high right in
    record {
      later = answer-later differ p4 n4 i low one r (answer-later product p4 n4 i al bl low now.left_low now.right_low first) (answer-later product p4 n4 i a_one b_one one later_a later_b both) is;
      is = λ x. is.is x ∙ ap₂ differ (first.is x) (both.is x ∙ ap₂ (λ u v. u && v) (left.is x) (right.is x));
    }

-- ---- the tops rise

-- how far a product goes down, and its high part
abbrev pub depth : ℕ → ℕ → ℕ → ℕ
depth n s t = 2 * (n - min s t)

abbrev pub high_depth : ℕ → ℕ → ℕ
high_depth n i = 2 * (n - i) - 1

pub deeper-high : (n s t i : ℕ) → i < n → ((j : ℕ) → j < s → j < t → j < i) → high_depth n i < depth n s t
deeper-high n s t i below least = elim (cases_lt i (min s t)) [ inl l ↦ absurd (omega (arith, least i (omega (arith, l)) (omega (arith, l)))) | inr l ↦ omega (arith, l, below) ]

pub deeper-low : (n s t i u v : ℕ) → i < n → ((j : ℕ) → j < s → j < t → j < i) → i < u → i < v → depth n u v < depth n s t
deeper-low n s t i u v below least lu lv = elim (cases_lt i (min s t)) [ inl l ↦ absurd (omega (arith, least i (omega (arith, l)) (omega (arith, l)))) | inr l ↦ omega (arith, l, below, lu, lv) ]

pub deeper : (n i u v : ℕ) → i < n → i < u → i < v → depth n u v < high_depth n i
deeper n i u v below lu lv = omega (arith, below, lu, lv)

pub both-later : (p p1 p2 : Signs) (n0 n1 n2 : List Node) (i al ah bl bh a_one b_one : ℕ) → Moved p n0 p1 n1 → Moved p1 n1 p2 n2 → AreParts p.n n0 i al ah bl bh → IsAnswer differ p1 n1 al ah a_one → IsAnswer differ p2 n2 bl bh b_one
    → (depth p2.n (top p2.n n2 a_one) (top p2.n n2 b_one) < high_depth p.n i) × (IsPlace n2 a_one × IsPlace n2 b_one)
both-later p p1 p2 n0 n1 n2 i al ah bl bh a_one b_one m1 m2 parts is_a is_b =
    let m = Moved-trans p p1 p2 n0 n1 n2 m1 m2 in
    let now = parts-moved p p2 n0 n2 m i al ah bl bh parts in
    let later_a = answer-later differ p2 n2 i al ah a_one now.left_low now.left_high (answer-moved differ p1 p2 n1 n2 m2 al ah a_one is_a) in
    let later_b = answer-later differ p2 n2 i bl bh b_one now.right_low now.right_high is_b in
    let inputs : p2.n ≡ p.n = ap (λ (q : Signs). q.n) m.0 in
    (omega (arith, inputs, deeper p2.n i (top p2.n n2 a_one) (top p2.n n2 b_one) now.below later_a.over later_b.over), (later_a.place, later_b.place))
