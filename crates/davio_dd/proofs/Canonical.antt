-- Places of a diagram with the same value at each point are the same place.
use Rattle.std.proofs.Common.{◌≡◌, ℕ, zero, suc, ◌+◌, ◌<◌, Bool, not, ◌&&◌, ◌⊎◌, inl, inr, List, Some, refl, sym, subst, ap, ap₂, ◌∙◌, arith}
use Rattle.std.proofs.lemmas.Bool.{and_right, cases_order, false≢true}
use Rattle.std.proofs.lemmas.Option.{slice_get_within}
use Rattle.ae_base.specs.Mask.{Set, differ, has, empty}
use Rattle.ae_base.specs.Cube.{Signs}
use Rattle.ae_base.specs.Terms.{IsPoint, literal}
use Rattle.ae_base.proofs.Sets.{has-empty, inside-from}
use Rattle.ae_base.proofs.Truth.{differ-same, differ-false, differ-back}
use Rattle.ae_base.specs.Points.{put}
use Rattle.ae_base.proofs.Points.{literal-put, literal-low, literal-high, inside-put}
use Rattle.fn_store.specs.Davio.{low, high}
use Rattle.davio_dd.specs.declared.node.Node.{Node}
use Rattle.davio_dd.specs.Diagram.{place_value, top, IsDiagram, IsPlace}
use Rattle.davio_dd.specs.Scratch.{IsPart}
use Rattle.davio_dd.proofs.Places.{value-zero, value-one, value-node, top-constant, top-node, IsNodeAt, place-cases}

pub top-place : (n : ℕ) (nodes : List Node) → IsDiagram n nodes → (at : ℕ) (c : IsNodeAt nodes at) → top n nodes at ≡ c.node.input
top-place n nodes is at c = ap (top n nodes) c.place ∙ top-node n nodes is c.k c.node c.got

pub value-place : (p : Signs) (nodes : List Node) → IsDiagram p.n nodes → (at : ℕ) (c : IsNodeAt nodes at) (x : Set)
    → place_value p nodes at x ≡ differ (place_value p nodes c.node.low x) (literal p c.node.input x && place_value p nodes c.node.high x)
value-place p nodes is at c x = ap (λ a. place_value p nodes a x) c.place ∙ value-node p p.n nodes is c.k c.node c.got x

-- what the invariant says of the node at a place
pub record Parts (n : ℕ) (nodes : List Node) (at : ℕ) (node : Node) : Type 0 where
  pub low_before : node.low < at
  pub high_before : node.high < at
  pub low_place : IsPlace nodes node.low
  pub high_place : IsPlace nodes node.high
  pub some : 0 < node.high
  pub below : node.input < n
  pub over_low : node.input < top n nodes node.low
  pub over_high : node.input < top n nodes node.high

pub parts : (n : ℕ) (nodes : List Node) → IsDiagram n nodes → (at : ℕ) (c : IsNodeAt nodes at) → Parts n nodes at c.node
parts n nodes is at c =
    let l = is.low c.k c.node c.got in
    let h = is.high c.k c.node c.got in
    let within = slice_get_within nodes c.k c.node c.got in
    let place = c.place in
    record {
      low_before = omega arith;
      high_before = omega arith;
      low_place = omega arith;
      high_place = omega arith;
      some = is.some c.k c.node c.got;
      below = is.below c.k c.node c.got;
      over_low = is.before_low c.k c.node c.got;
      over_high = is.before_high c.k c.node c.got;
    }

-- ---- induction on places

pub each_place : (n : ℕ) (nodes : List Node) → IsDiagram n nodes → (P : ℕ → Type 0) → P 0 → P 1 → ((at : ℕ) (c : IsNodeAt nodes at) → P c.node.low → P c.node.high → P at) → (at : ℕ) → IsPlace nodes at → P at
each_place n nodes is P on_zero on_one on_node at place = below (suc at) at (omega arith) place
  where
    step : (at : ℕ) → ((c : ℕ) → c < at → IsPlace nodes c → P c) → (at < 2) ⊎ IsNodeAt nodes at → P at
    step zero ih cases = on_zero
    step (suc zero) ih cases = on_one
    step (suc (suc k)) ih (inl l) = absurd (omega arith)
    step (suc (suc k)) ih (inr c) = let q = parts n nodes is _ c in on_node _ c (ih c.node.low q.low_before q.low_place) (ih c.node.high q.high_before q.high_place)

    below : (m : ℕ) (at : ℕ) → at < m → IsPlace nodes at → P at
    below zero at l place = absurd (omega arith)
    below (suc m) at l place = step at (λ c b. below m c (omega arith)) (place-cases nodes at place)

-- ---- a place does not look at inputs before its top

pub value-put : (p : Signs) (nodes : List Node) → IsDiagram p.n nodes → (at j : ℕ) (v : Bool) (x : Set) → IsPlace nodes at → j < top p.n nodes at → place_value p nodes at (put j v x) ≡ place_value p nodes at x
value-put p nodes is at j v x place =
    each_place p.n nodes is (λ at. j < top p.n nodes at → place_value p nodes at (put j v x) ≡ place_value p nodes at x)
    (λ l. value-zero p nodes (put j v x) ∙ sym (value-zero p nodes x))
    (λ l. value-one p nodes (put j v x) ∙ sym (value-one p nodes x))
    (λ at c low high l.
    let q = parts p.n nodes is at c in
    let before : j < c.node.input = omega (arith, l, top-place p.n nodes is at c) in
    value-place p nodes is at c (put j v x)
    ∙ ap₂ differ (low (omega (arith, q.over_low))) (ap₂ (λ a b. a && b) (literal-put p j c.node.input v x (λ e. absurd (omega (arith, before, e)))) (high (omega (arith, q.over_high))))
    ∙ sym (value-place p nodes is at c x))
    at place

-- ---- the parts of a place

-- a place beside the constant 0
pub part-none : (p : Signs) (nodes : List Node) (at high input : ℕ) → high ≡ 0 → (x : Set) → place_value p nodes at x ≡ differ (place_value p nodes at x) (literal p input x && place_value p nodes high x)
part-none p nodes at high input e x =
    sym (ap (λ b. differ (place_value p nodes at x) (literal p input x && b)) (ap (λ (h : ℕ). place_value p nodes h x) e ∙ value-zero p nodes x) ∙ ap (differ (place_value p nodes at x)) (and_right _ _ refl) ∙ differ-false _)

-- a place that tests later inputs alone is its own low part, beside the constant 0
pub part-whole : (p : Signs) (nodes : List Node) (at input : ℕ) → input < p.n → input < top p.n nodes at → IsPart p nodes at input at 0
part-whole p nodes at input below first = record {
  is = part-none p nodes at 0 input refl;
  low_le = omega arith;
  high_le = omega arith;
  low_falls = λ e. absurd (omega (arith, e, first));
  high_falls = λ some. some;
  over_low = first;
  over_high = omega (arith, top-constant p.n nodes 0 (omega arith), below);
}

pub part-node : (p : Signs) (nodes : List Node) → IsDiagram p.n nodes → (at : ℕ) (c : IsNodeAt nodes at) → IsPart p nodes at c.node.input c.node.low c.node.high
part-node p nodes is at c =
    let q = parts p.n nodes is at c in
    record {
      is = value-place p nodes is at c;
      low_le = omega (arith, q.low_before);
      high_le = omega (arith, q.high_before);
      low_falls = λ e. q.low_before;
      high_falls = λ some. q.high_before;
      over_low = q.over_low;
      over_high = q.over_high;
    }

-- where the literal is 0 a place is its low part
part-low : (p : Signs) (nodes : List Node) → IsDiagram p.n nodes → (at i l h : ℕ) → IsPlace nodes at → IsPart p nodes at i l h → (x : Set) → place_value p nodes at (low p i x) ≡ place_value p nodes l x
part-low p nodes is at i l h place part x =
    part.is (low p i x)
    ∙ ap (λ b. differ (place_value p nodes l (low p i x)) (b && place_value p nodes h (low p i x))) (literal-low p i x)
    ∙ differ-false _
    ∙ value-put p nodes is l i (not (has p.plain i)) x (omega (arith, part.low_le, place)) part.over_low

-- its high part is the difference that the literal makes
part-high : (p : Signs) (nodes : List Node) → IsDiagram p.n nodes → (at i l h : ℕ) → IsPlace nodes at → IsPart p nodes at i l h → (x : Set)
    → differ (place_value p nodes at (low p i x)) (place_value p nodes at (high p i x)) ≡ place_value p nodes h x
part-high p nodes is at i l h place part x =
    let kept = λ (c : ℕ) (pc : IsPlace nodes c) (over : i < top p.n nodes c). value-put p nodes is c i (has p.plain i) x pc over in
    let at_one : place_value p nodes at (high p i x) ≡ differ (place_value p nodes l x) (place_value p nodes h x) =
    part.is (high p i x)
    ∙ ap (λ b. differ (place_value p nodes l (high p i x)) (b && place_value p nodes h (high p i x))) (literal-high p i x)
    ∙ ap₂ differ (kept l (omega (arith, part.low_le, place)) part.over_low) (kept h (omega (arith, part.high_le, place)) part.over_high) in
    ap₂ differ (part-low p nodes is at i l h place part x) at_one ∙ differ-back _ _

-- ---- the induction on places

-- the two places have the same value at each point
abbrev pub AreSame : Signs → List Node → ℕ → ℕ → Type 0
AreSame p nodes a b = (x : Set) → IsPoint p.n x → place_value p nodes a x ≡ place_value p nodes b x

Below : Signs → List Node → ℕ → Type 0
Below p nodes m = (a b : ℕ) → a + b < m → IsPlace nodes a → IsPlace nodes b → AreSame p nodes a b → a ≡ b

-- places with the same values have parts with the same values
same_parts : (p : Signs) (nodes : List Node) → IsDiagram p.n nodes → (a b i al ah bl bh : ℕ) → IsPlace nodes a → IsPlace nodes b → i < p.n → IsPart p nodes a i al ah → IsPart p nodes b i bl bh
    → AreSame p nodes a b → AreSame p nodes al bl × AreSame p nodes ah bh
same_parts p nodes is a b i al ah bl bh pa pb below l r same =
    let at = λ (v : Bool) (x : Set) (point : IsPoint p.n x). same (put i v x) (inside-put p.n i v x point below) in
    let s = has p.plain i in (
      λ x point. sym (part-low p nodes is a i al ah pa l x) ∙ at (not s) x point ∙ part-low p nodes is b i bl bh pb r x,
      λ x point. sym (part-high p nodes is a i al ah pa l x) ∙ ap₂ differ (at (not s) x point) (at s x point) ∙ part-high p nodes is b i bl bh pb r x,
    )

-- a node is no place that tests later inputs alone
node_differs : (p : Signs) (nodes : List Node) → IsDiagram p.n nodes → (a b : ℕ) (c : IsNodeAt nodes a) → Below p nodes (a + b) → IsPlace nodes a → IsPlace nodes b → c.node.input < top p.n nodes b → AreSame p nodes a b → ⊥
unfolding Below
node_differs p nodes is a b c ih pa pb before same =
    let q = parts p.n nodes is a c in
    let none : c.node.high ≡ 0 = ih c.node.high 0 (omega (arith, q.high_before)) q.high_place (omega arith)
    (same_parts p nodes is a b c.node.input c.node.low c.node.high b 0 pa pb q.below (part-node p nodes is a c) (part-whole p nodes b c.node.input q.below before) same).1 in
    omega (arith, q.some, none)

same_node : (n m : Node) → n.input ≡ m.input → n.low ≡ m.low → n.high ≡ m.high → n ≡ m
same_node n m i l h =
    ap (λ (v : ℕ). record n { input = v }) i ∙ ap (λ (v : ℕ). record n { input = m.input; low = v }) l ∙ ap (λ (v : ℕ). record m { high = v }) h

-- nodes at the same input with the same values are the same
nodes_agree : (p : Signs) (nodes : List Node) → IsDiagram p.n nodes → (a b : ℕ) (c : IsNodeAt nodes a) (d : IsNodeAt nodes b) → Below p nodes (a + b) → IsPlace nodes a → IsPlace nodes b → c.node.input ≡ d.node.input → AreSame p nodes a b → a ≡ b
unfolding Below
nodes_agree p nodes is a b c d ih pa pb e same =
    let q = parts p.n nodes is a c in
    let r = parts p.n nodes is b d in
    let both = same_parts p nodes is a b c.node.input c.node.low c.node.high d.node.low d.node.high pa pb q.below (part-node p nodes is a c) (rw e (part-node p nodes is b d)) same in
    let lows : c.node.low ≡ d.node.low = ih c.node.low d.node.low (omega (arith, q.low_before, r.low_before)) q.low_place r.low_place both.0 in
    let highs : c.node.high ≡ d.node.high = ih c.node.high d.node.high (omega (arith, q.high_before, r.high_before)) q.high_place r.high_place both.1 in
    let place : c.k ≡ d.k = is.once c.k d.k d.node (c.got ∙ ap Some (same_node c.node d.node e lows highs)) d.got in
    omega (arith, place, c.place, d.place)

-- the constants differ
zero_one : (p : Signs) (nodes : List Node) → AreSame p nodes 0 1 → ⊥
zero_one p nodes same = false≢true (sym (value-zero p nodes empty) ∙ same empty (inside-from p.n empty (λ k l. has-empty k)) ∙ value-one p nodes empty)

same_step : (p : Signs) (nodes : List Node) → IsDiagram p.n nodes → (a b : ℕ) → IsPlace nodes a → IsPlace nodes b → Below p nodes (a + b) → AreSame p nodes a b → (a < 2) ⊎ IsNodeAt nodes a → (b < 2) ⊎ IsNodeAt nodes b → a ≡ b
unfolding Below
same_step p nodes is a b pa pb ih same (inl l) (inl m) = elim (cases_order a b) [
  | inl e ↦ e
  | inr (inl h) ↦ let e : a ≡ 0 = omega arith in let f : b ≡ 1 = omega arith in absurd (zero_one p nodes (rw (e, f) at same))
  | inr (inr h) ↦ let e : a ≡ 1 = omega arith in let f : b ≡ 0 = omega arith in absurd (zero_one p nodes (λ x point. sym ((rw (e, f) at same) x point)))
]
same_step p nodes is a b pa pb ih same (inr c) (inl m) = absurd (node_differs p nodes is a b c ih pa pb (omega (arith, (parts p.n nodes is a c).below, top-constant p.n nodes b m)) same)
same_step p nodes is a b pa pb ih same (inl l) (inr d) =
    absurd (node_differs p nodes is b a d (λ u v h. ih u v (omega arith)) pb pa (omega (arith, (parts p.n nodes is b d).below, top-constant p.n nodes a l)) (λ x point. sym (same x point)))
same_step p nodes is a b pa pb ih same (inr c) (inr d) = elim (cases_order c.node.input d.node.input) [
  | inl e ↦ nodes_agree p nodes is a b c d ih pa pb e same
  | inr (inl l) ↦ absurd (node_differs p nodes is a b c ih pa pb (omega (arith, l, top-place p.n nodes is b d)) same)
  | inr (inr l) ↦ absurd (node_differs p nodes is b a d (λ u v h. ih u v (omega arith)) pb pa (omega (arith, l, top-place p.n nodes is a c)) (λ x point. sym (same x point)))
]

same_below : (p : Signs) (nodes : List Node) → IsDiagram p.n nodes → (m : ℕ) → Below p nodes m
unfolding Below
same_below p nodes is zero a b l pa pb same = absurd (omega arith)
same_below p nodes is (suc m) a b l pa pb same =
    same_step p nodes is a b pa pb (λ u v h. same_below p nodes is m u v (omega arith)) same (place-cases nodes a pa) (place-cases nodes b pb)

-- places with the same value at each point are the same place
pub same_place : (p : Signs) (nodes : List Node) → IsDiagram p.n nodes → (a b : ℕ) → IsPlace nodes a → IsPlace nodes b → AreSame p nodes a b → a ≡ b
unfolding Below
same_place p nodes is a b pa pb same = same_below p nodes is (suc (a + b)) a b (omega arith) pa pb same
