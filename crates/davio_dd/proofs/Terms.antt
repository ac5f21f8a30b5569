-- The terms along the paths from a place: put in term order they are the expansion of its function.
use Rattle.std.proofs.Common.{◌≡◌, ◌≢◌, ℕ, ◌<◌, ◌≤◌, Bool, true, false, ◌&&◌, ◌||◌, ◌⊎◌, inl, inr, List, [], ◌∷◌, ◌++◌, map, refl, sym, subst, ap, ap₂, ◌∙◌, ne_eqb, arith}
use Rattle.std.specs.List.{AllByRecursion, IsDistinct}
use Rattle.std.proofs.lemmas.Bool.{and_right}
use Rattle.std.proofs.lemmas.List.Elements.{All-from_recursion}
use Rattle.std.proofs.lemmas.List.Sorted.{All-permutation}
use Rattle.ae_base.specs.Mask.{Set, differ, has, empty, first, with, inside}
use Rattle.ae_base.specs.Cube.{Signs}
use Rattle.ae_base.specs.Terms.{literal, product, value, in_order}
use Rattle.ae_base.proofs.Distinct.{each-append, each-map, each_weaker}
use Rattle.ae_base.proofs.Points.{put-other}
use Rattle.ae_base.proofs.Sets.{has-empty, inside-from}
use Rattle.ae_base.proofs.Truth.{differ-false, and-over_differ}
use Rattle.ae_base.proofs.InOrder.{in_order-order}
use Rattle.fn_store.specs.Davio.{IsExpansion}
use Rattle.fn_store.specs.Functions.{AgreeAt}
use Rattle.ae_base.proofs.Exor.{exor_of-append, exor_of-permutation}
use Rattle.ae_base.proofs.Literals.{product-empty, product-with}
use Rattle.fn_store.proofs.Expansions.{only}
use Rattle.davio_dd.specs.declared.node.Node.{Node}
use Rattle.davio_dd.specs.Diagram.{place_value, place_terms, top, IsDiagram, IsPlace}
use Rattle.davio_dd.proofs.Places.{entry-constant, entry-node, value-zero, value-one, IsNodeAt}
use Rattle.davio_dd.proofs.Canonical.{top-place, value-place, parts, each_place}
use Rattle.davio_dd.proofs.Once.{IsOnce, Lacks, once-append, in_order-permutation}

-- ---- terms by the parts

pub terms-zero : (nodes : List Node) → place_terms nodes 0 ≡ []
unfolding place_terms
terms-zero nodes = entry-constant [] (empty ∷ []) _ nodes 0 (omega arith)

pub terms-one : (nodes : List Node) → place_terms nodes 1 ≡ empty ∷ []
unfolding place_terms
terms-one nodes = entry-constant [] (empty ∷ []) _ nodes 1 (omega arith)

pub terms-place : (n : ℕ) (nodes : List Node) → IsDiagram n nodes → (at : ℕ) (c : IsNodeAt nodes at) → place_terms nodes at ≡ place_terms nodes c.node.low ++ map (λ t. with t c.node.input) (place_terms nodes c.node.high)
unfolding place_terms
terms-place n nodes is at c = ap (place_terms nodes) c.place ∙ entry-node [] (empty ∷ []) _ nodes c.k c.node c.got (is.low c.k c.node c.got) (is.high c.k c.node c.got)

-- ---- the value of the terms

value-with : (p : Signs) (i : ℕ) (ts : List Set) (x : Set) → value p (map (λ t. with t i) ts) x ≡ (literal p i x && value p ts x)
value-with p i [] x = sym (and_right (literal p i x) false refl)
value-with p i (t ∷ ts) x = ap₂ differ (product-with p t x i) (value-with p i ts x) ∙ sym (and-over_differ (literal p i x) (product p t x) (value p ts x))

value-terms : (p : Signs) (nodes : List Node) → IsDiagram p.n nodes → (at : ℕ) → IsPlace nodes at → (x : Set) → value p (place_terms nodes at) x ≡ place_value p nodes at x
value-terms p nodes is at place x =
    each_place p.n nodes is (λ at. value p (place_terms nodes at) x ≡ place_value p nodes at x)
    (ap (λ ts. value p ts x) (terms-zero nodes) ∙ sym (value-zero p nodes x))
    (ap (λ ts. value p ts x) (terms-one nodes) ∙ differ-false (product p empty x) ∙ product-empty p x ∙ sym (value-one p nodes x))
    (λ at c low high.
    ap (λ ts. value p ts x) (terms-place p.n nodes is at c)
    ∙ exor_of-append (λ t. product p t x) (place_terms nodes c.node.low) (map (λ t. with t c.node.input) (place_terms nodes c.node.high))
    ∙ ap₂ differ low (value-with p c.node.input (place_terms nodes c.node.high) x ∙ ap (λ b. literal p c.node.input x && b) high)
    ∙ sym (value-place p nodes is at c x))
    at place

-- ---- inputs that no term holds

-- inputs before the top, and those from n on
terms-unused : (n : ℕ) (nodes : List Node) → IsDiagram n nodes → (k : ℕ) (at : ℕ) → IsPlace nodes at → (k < top n nodes at) ⊎ (n ≤ k) → Lacks k (place_terms nodes at)
terms-unused n nodes is k =
    each_place n nodes is (λ at. (k < top n nodes at) ⊎ (n ≤ k) → Lacks k (place_terms nodes at))
    (λ h. subst (Lacks k) (sym (terms-zero nodes)) tt)
    (λ h. subst (Lacks k) (sym (terms-one nodes)) (has-empty k, tt))
    (λ at c low high h.
    let q = parts n nodes is at c in
    let apart : k ≢ c.node.input = λ e. elim h [ inl l ↦ omega (arith, l, e, top-place n nodes is at c) | inr l ↦ omega (arith, l, e, q.below) ] in
    let kept = λ (d : ℕ) (o : c.node.input < top n nodes d). elim h as (λ _. (k < top n nodes d) ⊎ (n ≤ k)) [ inl l ↦ inl (omega (arith, l, o, top-place n nodes is at c)) | inr l ↦ inr l ] in
    subst (Lacks k) (sym (terms-place n nodes is at c))
    (each-append _ (place_terms nodes c.node.low) _ (low (kept c.node.low q.over_low))
    (each-map _ _ _ (each_weaker _ _ (λ t out. put-other c.node.input k true t apart ∙ out) (place_terms nodes c.node.high) (high (kept c.node.high q.over_high))))))

-- ---- the expansion

-- no term stands twice
pub terms-once : (n : ℕ) (nodes : List Node) → IsDiagram n nodes → (at : ℕ) → IsPlace nodes at → IsOnce (place_terms nodes at)
unfolding IsDistinct
terms-once n nodes is =
    each_place n nodes is (λ at. IsOnce (place_terms nodes at))
    (subst IsOnce (sym (terms-zero nodes)) tt)
    (subst IsOnce (sym (terms-one nodes)) (tt, tt))
    (λ at c low high.
    let q = parts n nodes is at c in
    subst IsOnce (sym (terms-place n nodes is at c))
    (once-append c.node.input (place_terms nodes c.node.low) (place_terms nodes c.node.high)
    (terms-unused n nodes is c.node.input c.node.low q.low_place (inl q.over_low))
    (terms-unused n nodes is c.node.input c.node.high q.high_place (inl q.over_high)) low high))

each_inside : (n : ℕ) (ts : List Set) → ((k : ℕ) → n ≤ k → Lacks k ts) → AllByRecursion (λ t. inside t (first n) ≡ true) ts
each_inside n [] h = tt
each_inside n (t ∷ ts) h = (inside-from n t (λ k l. (h k l).0), each_inside n ts (λ k l. (h k l).1))

-- the value of the terms in order
pub value-in_order : (p : Signs) (nodes : List Node) → IsDiagram p.n nodes → (at : ℕ) → IsPlace nodes at → (x : Set) → value p (in_order (place_terms nodes at)) x ≡ place_value p nodes at x
value-in_order p nodes is at place x =
    exor_of-permutation (λ t. product p t x) _ _ (in_order-permutation (place_terms nodes at) (terms-once p.n nodes is at place)) ∙ value-terms p nodes is at place x

-- the terms of a place, put in order, are the expansion of each function that has the place's value at each point
pub place-expansion : (p : Signs) (nodes : List Node) → IsDiagram p.n nodes → (at : ℕ) → IsPlace nodes at → (f : Set → Bool) → AgreeAt p.n (place_value p nodes at) f → IsExpansion p f (in_order (place_terms nodes at))
place-expansion p nodes is at place f same =
    only p f (in_order (place_terms nodes at)) (in_order-order (place_terms nodes at))
    (All-permutation (λ t. inside t (first p.n) ≡ true) (place_terms nodes at) _ (in_order-permutation (place_terms nodes at) (terms-once p.n nodes is at place))
    (All-from_recursion (λ t. inside t (first p.n) ≡ true) (place_terms nodes at) (each_inside p.n (place_terms nodes at) (λ k l. terms-unused p.n nodes is k at place (inr l)))))
    (λ x point. value-in_order p nodes is at place x ∙ same x point)
