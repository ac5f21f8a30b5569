-- One step of a walk along the paths from a place: the terms behind others, and the room that they leave.
use Rattle.std.proofs.Common.{◌≡◌, ◌≢◌, ℕ, ◌+◌, ◌-◌, ◌<◌, ◌≤◌, Bool, ◌||◌, List, [], ◌∷◌, ◌++◌, map, length, Option, None, Some, inl, inr, refl, sym, ap, ap₂, ◌∙◌, eqb, append_assoc, append-nil, length-append, arith}
use Rattle.std.specs.Option.{MatchOption, SomeIff}
use Rattle.std.proofs.Math.Bool.{or_assoc, or_comm}
use Rattle.std.proofs.lemmas.Bool.{cases_lt}
use Rattle.std.proofs.lemmas.List.{map-append, length-map}
use Rattle.ae_base.specs.Mask.{Set, has, empty, with, either}
use Rattle.ae_base.proofs.Sets.{same_set, has-empty, has-with, has-either}
use Rattle.ae_base.proofs.Truth.{or-false}
use Rattle.davio_dd.specs.declared.node.Node.{Node}
use Rattle.davio_dd.specs.Diagram.{place_terms, IsDiagram}
use Rattle.davio_dd.specs.Scratch.{IsNode}
use Rattle.davio_dd.proofs.Places.{node_at}
use Rattle.davio_dd.proofs.Terms.{terms-zero, terms-one, terms-place}

-- ---- the terms of a place that is read

pub terms-none : (nodes : List Node) (at : ℕ) → at ≡ 0 → place_terms nodes at ≡ []
terms-none nodes at e = ap (place_terms nodes) e ∙ terms-zero nodes

terms-empty : (nodes : List Node) (at : ℕ) → at < 2 → (at ≢ 0) → place_terms nodes at ≡ empty ∷ []
terms-empty nodes at l some = let e : at ≡ 1 = omega (arith, some) in ap (place_terms nodes) e ∙ terms-one nodes

-- ---- the terms behind others

or_turned : (a b c : Bool) → (a || (b || c)) ≡ ((b || a) || c)
or_turned a b c = sym (or_assoc a b c) ∙ ap (λ d. d || c) (or_comm a b)

either-with : (path t : Set) (i : ℕ) → either path (with t i) ≡ either (with path i) t
either-with path t i = same_set _ _ (λ k.
    has-either path (with t i) k
    ∙ ap (λ b. has path k || b) (has-with t i k)
    ∙ or_turned (has path k) (eqb k i) (has t k)
    ∙ sym (has-either (with path i) t k ∙ ap (λ b. b || has t k) (has-with path i k)))

either-empty : (t : Set) → either t empty ≡ t
either-empty t = same_set _ _ (λ k. has-either t empty k ∙ ap (λ b. has t k || b) (has-empty k) ∙ or-false (has t k))

empty-either : (t : Set) → either empty t ≡ t
empty-either t = same_set _ _ (λ k. has-either empty t k ∙ ap (λ b. b || has t k) (has-empty k))

map_path : (path : Set) (i : ℕ) (ts : List Set) → map (λ t. either path t) (map (λ t. with t i) ts) ≡ map (λ t. either (with path i) t) ts
map_path path i [] = refl
map_path path i (t ∷ ts) = ap₂ (λ u us. u ∷ us) (either-with path t i) (map_path path i ts)

pub map-empty : (ts : List Set) → map (λ t. either empty t) ts ≡ ts
map-empty [] = refl
map-empty (t ∷ ts) = ap₂ (λ u us. u ∷ us) (empty-either t) (map-empty ts)

pub pushed-node : (n : ℕ) (nodes : List Node) → IsDiagram n nodes → (at : ℕ) (node : Node) → IsNode n nodes at node → (path : Set) (before between after : List Set)
    → between ≡ before ++ map (λ t. either path t) (place_terms nodes node.low) → after ≡ between ++ map (λ t. either (with path node.input) t) (place_terms nodes node.high)
    → after ≡ before ++ map (λ t. either path t) (place_terms nodes at)
pushed-node n nodes is at node h path before between after low high =
    let lows = map (λ t. either path t) (place_terms nodes node.low) in
    high
    ∙ ap₂ (λ ts us. ts ++ us) low (sym (map_path path node.input (place_terms nodes node.high)))
    ∙ append_assoc before lows (map (λ t. either path t) (map (λ t. with t node.input) (place_terms nodes node.high)))
    ∙ ap (λ us. before ++ us) (sym (map-append (λ t. either path t) (place_terms nodes node.low) (map (λ t. with t node.input) (place_terms nodes node.high))))
    ∙ ap (λ us. before ++ map (λ t. either path t) us) (sym (terms-place n nodes is at (node_at n nodes at node h)))

pub pushed-one : (nodes : List Node) (at : ℕ) → at < 2 → (at ≢ 0) → (path : Set) (before after : List Set) → after ≡ before ++ path ∷ [] → after ≡ before ++ map (λ t. either path t) (place_terms nodes at)
pushed-one nodes at l some path before after h =
    h ∙ ap (λ (u : Set). before ++ u ∷ []) (sym (either-empty path)) ∙ ap (λ us. before ++ map (λ t. either path t) us) (sym (terms-empty nodes at l some))

-- ---- the room that they leave

-- what is left of room beside as many terms, if there are no more of them
abbrev Leaves : ℕ → ℕ → Option ℕ → Type 0
Leaves room terms left = MatchOption left (room < terms) (λ rest. rest + terms ≡ room)

pub length-read : (n : ℕ) (nodes : List Node) → IsDiagram n nodes → (at : ℕ) (node : Node) → IsNode n nodes at node → length (place_terms nodes at) ≡ length (place_terms nodes node.low) + length (place_terms nodes node.high)
length-read n nodes is at node h =
    ap length (terms-place n nodes is at (node_at n nodes at node h))
    ∙ length-append (place_terms nodes node.low) (map (λ t. with t node.input) (place_terms nodes node.high))
    ∙ ap (λ k. length (place_terms nodes node.low) + k) (length-map (place_terms nodes node.high) (λ t. with t node.input))

pub room-node : (n : ℕ) (nodes : List Node) → IsDiagram n nodes → (at : ℕ) (node : Node) → IsNode n nodes at node → (room left : ℕ) → left + length (place_terms nodes node.low) ≡ room
    → (rest : Option ℕ) → Leaves left (length (place_terms nodes node.high)) rest → Leaves room (length (place_terms nodes at)) rest
room-node n nodes is at node h room left e None l = omega (arith, length-read n nodes is at node h)
room-node n nodes is at node h room left e (Some rest) l = omega (arith, length-read n nodes is at node h)

pub room-one : (nodes : List Node) (at : ℕ) → at < 2 → (at ≢ 0) → (room : ℕ) (rest : Option ℕ) → SomeIff rest (1 ≤ room) (room - 1) → Leaves room (length (place_terms nodes at)) rest
room-one nodes at l some room None h = let few : room < 1 = elim (cases_lt room 1) [ inl m ↦ m | inr m ↦ absurd (h m) ] in omega (arith, ap length (terms-empty nodes at l some))
room-one nodes at l some room (Some rest) (m, e) = omega (arith, e, m, ap length (terms-empty nodes at l some))
