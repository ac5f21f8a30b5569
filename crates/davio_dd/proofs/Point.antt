-- The point along one path is the least point at which the function is 1.
use Rattle.std.proofs.Common.{◌≡◌, ◌≢◌, ℕ, zero, suc, ◌<◌, ◌≤◌, Bool, true, false, not, ◌&&◌, cond, ◌⊎◌, inl, inr, List, Option, None, Some, refl, sym, subst, ap, ap₂, ◌∙◌, eqb, ltb, eq-eqb, ne_eqb, lt-ltb, le-ltb, arith}
use Rattle.std.proofs.lemmas.Bool.{cases_Bool, cases_eq, cases_lt, cases_order, false≢true, and_parts}
use Rattle.ae_base.specs.Mask.{Set, differ, has, first, both, xor, least}
use Rattle.ae_base.specs.Cube.{Signs}
use Rattle.ae_base.specs.Terms.{IsPoint, literal}
use Rattle.ae_base.proofs.Sets.{same_set, has-first, has-both, has-xor, inside-from, inside-above}
use Rattle.ae_base.proofs.Truth.{differ-false, differ-back, differ-flip, equal_values}
use Rattle.ae_base.proofs.Members.{least-is, least-empty}
use Rattle.ae_base.proofs.Points.{literal-put, literal-low, literal-high, inside-put}
use Rattle.fn_store.specs.Davio.{low, high}
use Rattle.davio_dd.specs.declared.node.Node.{Node}
use Rattle.fn_store.specs.Functions.{AgreeAt, IsBefore, IsLeastPoint}
use Rattle.davio_dd.specs.Diagram.{place_value, top, IsDiagram, IsPlace}
use Rattle.davio_dd.specs.Scratch.{IsNode, all_zero, path_point}
use Rattle.davio_dd.proofs.Places.{entry-constant, entry-node, value-zero, value-one, IsNodeAt, node_at}
use Rattle.davio_dd.proofs.Canonical.{top-place, value-place, parts, each_place, value-put}

-- ---- all literals 0

has-all_zero : (p : Signs) (k : ℕ) → has (all_zero p) k ≡ differ (ltb k p.n) (ltb k p.n && has p.plain k)
unfolding all_zero
has-all_zero p k = has-xor (first p.n) (both (first p.n) p.plain) k ∙ ap₂ differ (has-first p.n k) (has-both (first p.n) p.plain k ∙ ap (λ b. b && has p.plain k) (has-first p.n k))

opposite : (b : Bool) → cond b (not b) (not (not b)) ≡ false
opposite true = refl
opposite false = refl

pub literal-all_zero : (p : Signs) (k : ℕ) → k < p.n → literal p k (all_zero p) ≡ false
literal-all_zero p k l =
    let e : has (all_zero p) k ≡ not (has p.plain k) = has-all_zero p k ∙ ap (λ b. differ b (b && has p.plain k)) (lt-ltb k p.n l) in
    ap (λ b. cond (has p.plain k) b (not b)) e ∙ opposite (has p.plain k)

pub all_zero-point : (p : Signs) → IsPoint p.n (all_zero p)
all_zero-point p = inside-from p.n (all_zero p) (λ k l. has-all_zero p k ∙ ap (λ b. differ b (b && has p.plain k)) (le-ltb k p.n l))

-- ---- the walk

record Walked (p : Signs) (nodes : List Node) (at : ℕ) (x : Set) : Type 0 where
  point : IsPoint p.n x
  value : 0 < at → place_value p nodes at x ≡ true
  zeros : (k : ℕ) → k < p.n → k < top p.n nodes at → literal p k x ≡ false
  least : (y : Set) → IsPoint p.n y → place_value p nodes at y ≡ true → IsBefore p y x → ⊥

walked-constant : (p : Signs) (nodes : List Node) (at : ℕ) → (0 < at → place_value p nodes at (all_zero p) ≡ true) → Walked p nodes at (all_zero p)
walked-constant p nodes at value = record {
  point = all_zero-point p;
  value = value;
  zeros = λ k l h. literal-all_zero p k l;
  least = λ y point one h. false≢true (sym (literal-all_zero p h.input h.is_input) ∙ h.high);
}

-- at literal 0 a node is its low part
at_off : (p : Signs) (nodes : List Node) → IsDiagram p.n nodes → (at : ℕ) (c : IsNodeAt nodes at) (x : Set) → literal p c.node.input x ≡ false → place_value p nodes at x ≡ place_value p nodes c.node.low x
at_off p nodes is at c x off = value-place p nodes is at c x ∙ ap (λ b. differ (place_value p nodes c.node.low x) (b && place_value p nodes c.node.high x)) off ∙ differ-false (place_value p nodes c.node.low x)

walked-low : (p : Signs) (nodes : List Node) → IsDiagram p.n nodes → (at : ℕ) (c : IsNodeAt nodes at) (x : Set) → 0 < c.node.low → Walked p nodes c.node.low x → Walked p nodes at x
walked-low p nodes is at c x some w =
    let q = parts p.n nodes is at c in
    let off : literal p c.node.input x ≡ false = w.zeros c.node.input q.below q.over_low in
    record {
      point = w.point;
      value = λ l. at_off p nodes is at c x off ∙ w.value some;
      zeros = λ k l h. w.zeros k l (omega (arith, h, top-place p.n nodes is at c, q.over_low));
      least = λ y point one h. w.least y point (sym (at_off p nodes is at c y (h.same c.node.input (later y h) ∙ off)) ∙ one) h;
    }
  where
    later : (y : Set) (h : IsBefore p y x) → c.node.input < h.input
    later y h = elim (cases_lt c.node.input h.input) [
      | inl l ↦ l
      | inr l ↦ absurd (false≢true (sym (w.zeros h.input h.is_input (omega (arith, l, (parts p.n nodes is at c).over_low))) ∙ h.high))
    ]

walked-high : (p : Signs) (nodes : List Node) → IsDiagram p.n nodes → (at : ℕ) (c : IsNodeAt nodes at) (x : Set) → c.node.low ≡ 0 → Walked p nodes c.node.high x → Walked p nodes at (high p c.node.input x)
walked-high p nodes is at c x none w = record {
  point = inside-put p.n c.node.input (has p.plain c.node.input) x w.point (parts p.n nodes is at c).below;
  value = λ l. on_high (high p c.node.input x) ∙ ap₂ (λ a b. a && b) (literal-high p c.node.input x)
      (value-put p nodes is c.node.high c.node.input (has p.plain c.node.input) x (parts p.n nodes is at c).high_place (parts p.n nodes is at c).over_high ∙ w.value (parts p.n nodes is at c).some);
  zeros = λ k l h. earlier k l (omega (arith, h, top-place p.n nodes is at c));
  least = λ y point one h. by_order y point (and_parts _ _ (sym (on_high y) ∙ one)) h (cases_order h.input c.node.input);
}
  where
    on_high : (y : Set) → place_value p nodes at y ≡ (literal p c.node.input y && place_value p nodes c.node.high y)
    on_high y = value-place p nodes is at c y ∙ ap (λ b. differ b (literal p c.node.input y && place_value p nodes c.node.high y)) (ap (λ (a : ℕ). place_value p nodes a y) none ∙ value-zero p nodes y)

    earlier : (k : ℕ) → k < p.n → k < c.node.input → literal p k (high p c.node.input x) ≡ false
    earlier k l h = literal-put p c.node.input k (has p.plain c.node.input) x (λ e. absurd (omega (arith, h, e))) ∙ w.zeros k l (omega (arith, h, (parts p.n nodes is at c).over_high))

    by_order : (y : Set) → IsPoint p.n y → (literal p c.node.input y ≡ true) × (place_value p nodes c.node.high y ≡ true) → (h : IsBefore p y (high p c.node.input x))
        → (h.input ≡ c.node.input) ⊎ ((h.input < c.node.input) ⊎ (c.node.input < h.input)) → ⊥
    by_order y point on h (inl e) = false≢true (sym h.low ∙ ap (λ i. literal p i y) e ∙ on.0)
    by_order y point on h (inr (inl l)) = false≢true (sym (earlier h.input h.is_input l) ∙ h.high)
    by_order y point on h (inr (inr l)) =
        w.least (low p c.node.input y)
        (inside-put p.n c.node.input (not (has p.plain c.node.input)) y point (parts p.n nodes is at c).below)
        (value-put p nodes is c.node.high c.node.input (not (has p.plain c.node.input)) y (parts p.n nodes is at c).high_place (parts p.n nodes is at c).over_high ∙ on.1)
        (record {
          input = h.input;
          is_input = h.is_input;
          same = λ j m. agree j m (cases_eq j c.node.input);
          low = literal-put p c.node.input h.input (not (has p.plain c.node.input)) y (λ e. absurd (omega (arith, l, e))) ∙ h.low;
          high = sym (literal-put p c.node.input h.input (has p.plain c.node.input) x (λ e. absurd (omega (arith, l, e)))) ∙ h.high;
        })
      where
        agree : (j : ℕ) → j < h.input → (j ≡ c.node.input) ⊎ (j ≢ c.node.input) → literal p j (low p c.node.input y) ≡ literal p j x
        agree j m (inl e) = ap (λ i. literal p i (low p c.node.input y)) e ∙ literal-low p c.node.input y ∙ sym (w.zeros c.node.input (parts p.n nodes is at c).below (parts p.n nodes is at c).over_high) ∙ ap (λ i. literal p i x) (sym e)
        agree j m (inr apart) =
            literal-put p c.node.input j (not (has p.plain c.node.input)) y apart
            ∙ h.same j m
            ∙ literal-put p c.node.input j (has p.plain c.node.input) x apart

-- ---- the point along the path

pub path-constant : (p : Signs) (nodes : List Node) (at : ℕ) → at < 2 → path_point p nodes at ≡ all_zero p
unfolding path_point
path-constant p nodes zero l = entry-constant (all_zero p) (all_zero p) _ nodes 0 l
path-constant p nodes (suc zero) l = entry-constant (all_zero p) (all_zero p) _ nodes 1 l
path-constant p nodes (suc (suc k)) l = absurd (omega arith)

pub path-place : (p : Signs) (nodes : List Node) → IsDiagram p.n nodes → (at : ℕ) (c : IsNodeAt nodes at)
    → (c.node.low ≡ 0 → path_point p nodes at ≡ high p c.node.input (path_point p nodes c.node.high)) × ((c.node.low ≢ 0) → path_point p nodes at ≡ path_point p nodes c.node.low)
unfolding path_point
path-place p nodes is at c =
    let by = λ (b : Bool). cond b (high p c.node.input (path_point p nodes c.node.high)) (path_point p nodes c.node.low) in
    let whole : path_point p nodes at ≡ by (eqb c.node.low 0) =
    ap (λ (a : ℕ). path_point p nodes a) c.place ∙ entry-node (all_zero p) (all_zero p) _ nodes c.k c.node c.got (is.low c.k c.node c.got) (is.high c.k c.node c.got) in
    (λ e. whole ∙ ap by (eq-eqb c.node.low 0 e), λ e. whole ∙ ap by (ne_eqb c.node.low 0 e))

walked : (p : Signs) (nodes : List Node) → IsDiagram p.n nodes → (at : ℕ) → IsPlace nodes at → Walked p nodes at (path_point p nodes at)
walked p nodes is =
    each_place p.n nodes is (λ at. Walked p nodes at (path_point p nodes at))
    (rw (path-constant p nodes 0 (omega arith)) (walked-constant p nodes 0 (λ l. absurd (omega arith))))
    (rw (path-constant p nodes 1 (omega arith)) (walked-constant p nodes 1 (λ l. value-one p nodes (all_zero p))))
    (λ at c on_low on_high. elim (cases_eq c.node.low 0) [
      | inl e ↦ rw ((path-place p nodes is at c).0 e) (walked-high p nodes is at c (path_point p nodes c.node.high) e on_high)
      | inr e ↦ rw ((path-place p nodes is at c).1 e) (walked-low p nodes is at c (path_point p nodes c.node.low) (omega (arith, e)) on_low)
    ])

-- ---- the order of points is total

literal_turned : (p : Signs) (j : ℕ) (x y : Set) → differ (has x j) (has y j) ≡ true → literal p j y ≡ not (literal p j x)
literal_turned p j x y h = by_values (has p.plain j) (has x j) (has y j) h
  where
    by_values : (b c d : Bool) → differ c d ≡ true → cond b d (not d) ≡ not (cond b c (not c))
    by_values true c d e = sym (differ-back c d) ∙ ap (differ c) e ∙ differ-flip c true
    by_values false c d e = ap not (sym (differ-back c d) ∙ ap (differ c) e ∙ differ-flip c true)

before-total : (p : Signs) (x y : Set) → IsPoint p.n x → IsPoint p.n y → (x ≡ y) ⊎ (IsBefore p x y ⊎ IsBefore p y x)
before-total p x y px py = by_first (least (xor x y)) refl
  where
    same : (k : ℕ) → has (xor x y) k ≡ false → has x k ≡ has y k
    same k e = equal_values _ _ (sym (has-xor x y k) ∙ e)

    by_first : (o : Option ℕ) → least (xor x y) ≡ o → (x ≡ y) ⊎ (IsBefore p x y ⊎ IsBefore p y x)
    by_first None e = inl (same_set x y (λ k. same k (least-empty (xor x y) e k)))
    by_first (Some d) e =
        let r = least-is (xor x y) d e in
        let apart : differ (has x d) (has y d) ≡ true = sym (has-xor x y d) ∙ r.0 in
        let input : d < p.n = elim (cases_lt d p.n) [ inl l ↦ l | inr l ↦ absurd (false≢true (sym (ap₂ differ (inside-above p.n x px d l) (inside-above p.n y py d l)) ∙ apart)) ] in
        let agree = λ (j : ℕ) (h : j < d). ap (λ b. cond (has p.plain j) b (not b)) (same j (r.1 j h)) in
        let turned = literal_turned p d x y apart in
        elim (cases_Bool (literal p d x)) [
          | inl f ↦ inr (inr (record { input = d; is_input = input; same = λ j h. sym (agree j h); low = turned ∙ ap not f; high = f }))
          | inr f ↦ inr (inl (record { input = d; is_input = input; same = agree; low = f; high = turned ∙ ap not f }))
        ]

-- ---- the least point

-- the path leads to the least point of a function that has the place's value at each point
pub point-least : (p : Signs) (nodes : List Node) → IsDiagram p.n nodes → (at : ℕ) → IsPlace nodes at → 0 < at → (f : Set → Bool) → AgreeAt p.n (place_value p nodes at) f → IsLeastPoint p f (path_point p nodes at)
point-least p nodes is at place some f same =
    let w = walked p nodes is at place in
    let x = path_point p nodes at in
    record {
      is_point = w.point;
      holds = sym (same x w.point) ∙ w.value some;
      least = λ y point one. elim (before-total p (path_point p nodes at) y w.point point) [
        | inl e ↦ inl e
        | inr (inl h) ↦ inr h
        | inr (inr h) ↦ absurd (w.least y point (same y point ∙ one) h)
      ];
    }
