-- What places have, while nodes are added.
use Rattle.std.proofs.Common.{◌≡◌, ℕ, ◌+◌, ◌-◌, ◌<◌, suc, zero, true, false, ◌&&◌, ◌⊎◌, inl, inr, List, [], ◌∷◌, ◌++◌, length, take, drop, get_or, slice_get, Some, refl, ap, ap₂, sym, ◌∙◌, arith, length-append}
use Rattle.std.proofs.Math.ListN.{get_or-append}
use Rattle.std.proofs.Math.Seq.{get_or-append_seam}
use Rattle.std.proofs.lemmas.Bool.{cases_lt}
use Rattle.std.proofs.lemmas.Option.{slice_get-get_or, none-some, same_Some}
use Rattle.ae_base.specs.Mask.{Set, differ}
use Rattle.ae_base.specs.Cube.{Signs}
use Rattle.ae_base.specs.Terms.{literal}
use Rattle.davio_dd.specs.declared.node.Node.{Node}
use Rattle.davio_dd.specs.Diagram.{entries_from, entry, place_value, top, IsDiagram, IsPlace}
use Rattle.davio_dd.specs.Scratch.{IsNode}

-- ---- entries

length-entries : {A : Type 0} (z : A) (rule : Node → A → A → A) (es : List A) (ns : List Node) → length (entries_from z rule es ns) ≡ length es + length ns
unfolding entries_from
length-entries z rule es [] = omega arith
length-entries z rule es (n ∷ ns) =
    let e = rule n (get_or es n.low z) (get_or es n.high z) in
    omega (arith, length-entries z rule (es ++ e ∷ []) ns, length-append es (e ∷ []))

entries-keep : {A : Type 0} (z : A) (rule : Node → A → A → A) (es : List A) (ns : List Node) (i : ℕ) → i < length es → get_or (entries_from z rule es ns) i z ≡ get_or es i z
unfolding entries_from
entries-keep z rule es [] i lt = refl
entries-keep z rule es (n ∷ ns) i lt =
    let e = rule n (get_or es n.low z) (get_or es n.high z) in
    entries-keep z rule (es ++ e ∷ []) ns i (omega (arith, length-append es (e ∷ []))) ∙ get_or-append es (e ∷ []) z i lt

entries-append : {A : Type 0} (z : A) (rule : Node → A → A → A) (es : List A) (xs ys : List Node) → entries_from z rule es (xs ++ ys) ≡ entries_from z rule (entries_from z rule es xs) ys
unfolding entries_from
entries-append z rule es [] ys = refl
entries-append z rule es (x ∷ xs) ys = entries-append z rule (es ++ rule x (get_or es x.low z) (get_or es x.high z) ∷ []) xs ys

-- a place keeps its entry
pub entry-grows : {A : Type 0} (z o : A) (rule : Node → A → A → A) (nodes more : List Node) (at : ℕ) → IsPlace nodes at → entry z o rule (nodes ++ more) at ≡ entry z o rule nodes at
unfolding entry
entry-grows z o rule nodes more at lt =
    ap (λ es. get_or es at z) (entries-append z rule (z ∷ o ∷ []) nodes more)
    ∙ entries-keep z rule (entries_from z rule (z ∷ o ∷ []) nodes) more at (omega (arith, length-entries z rule (z ∷ o ∷ []) nodes))

pub entry-constant : {A : Type 0} (z o : A) (rule : Node → A → A → A) (nodes : List Node) (at : ℕ) → at < 2 → entry z o rule nodes at ≡ get_or (z ∷ o ∷ []) at z
unfolding entry
entry-constant z o rule nodes at l = entries-keep z rule (z ∷ o ∷ []) nodes at l

entries-node : {A : Type 0} (z : A) (rule : Node → A → A → A) (es : List A) (ns : List Node) (k : ℕ) (node : Node) → slice_get ns k ≡ Some node → node.low < length es + k → node.high < length es + k
    → get_or (entries_from z rule es ns) (length es + k) z ≡ rule node (get_or (entries_from z rule es ns) node.low z) (get_or (entries_from z rule es ns) node.high z)
unfolding entries_from
entries-node z rule es [] k node got low high = absurd (none-some node got)
entries-node z rule es (n ∷ ns) zero node got low high =
    let e = rule n (get_or es n.low z) (get_or es n.high z) in
    let same : n ≡ node = same_Some n node got in
    let kept = λ (i : ℕ) (l : i < length es). entries-keep z rule (es ++ e ∷ []) ns i (omega (arith, l, length-append es (e ∷ []))) ∙ get_or-append es (e ∷ []) z i l in
    let long : length es + 0 ≡ length es = omega arith in
    rw long (entries-keep z rule (es ++ e ∷ []) ns (length es) (omega (arith, length-append es (e ∷ []))) ∙ get_or-append_seam es e [] z
    ∙ ap (λ (m : Node). rule m (get_or es m.low z) (get_or es m.high z)) same ∙ sym (ap₂ (rule node) (kept node.low (omega (arith, low))) (kept node.high (omega (arith, high)))))
entries-node z rule es (n ∷ ns) (suc k) node got low high =
    let e = rule n (get_or es n.low z) (get_or es n.high z) in
    let long : length es + suc k ≡ length (es ++ e ∷ []) + k = omega (arith, length-append es (e ∷ [])) in
    rw long (entries-node z rule (es ++ e ∷ []) ns k node got (omega (arith, low, long)) (omega (arith, high, long)))

-- a node's place, by its parts
pub entry-node : {A : Type 0} (z o : A) (rule : Node → A → A → A) (nodes : List Node) (k : ℕ) (node : Node) → slice_get nodes k ≡ Some node → node.low < k + 2 → node.high < k + 2
    → entry z o rule nodes (k + 2) ≡ rule node (entry z o rule nodes node.low) (entry z o rule nodes node.high)
unfolding entry
entry-node z o rule nodes k node got low high = let e : k + 2 ≡ 2 + k = omega arith in rw e (entries-node z rule (z ∷ o ∷ []) nodes k node got (omega (arith, low)) (omega (arith, high)))

-- ---- values, terms and tops

pub value-zero : (p : Signs) (nodes : List Node) (x : Set) → place_value p nodes 0 x ≡ false
unfolding place_value
value-zero p nodes x = entry-constant false true _ nodes 0 (omega arith)

pub value-one : (p : Signs) (nodes : List Node) (x : Set) → place_value p nodes 1 x ≡ true
unfolding place_value
value-one p nodes x = entry-constant false true _ nodes 1 (omega arith)

pub value-node : (p : Signs) (n : ℕ) (nodes : List Node) → IsDiagram n nodes → (k : ℕ) (node : Node) → slice_get nodes k ≡ Some node → (x : Set)
    → place_value p nodes (k + 2) x ≡ differ (place_value p nodes node.low x) (literal p node.input x && place_value p nodes node.high x)
unfolding place_value
value-node p n nodes is k node got x = entry-node false true _ nodes k node got (is.low k node got) (is.high k node got)

pub top-constant : (n : ℕ) (nodes : List Node) (at : ℕ) → at < 2 → top n nodes at ≡ n
unfolding top
top-constant n nodes zero l = entry-constant n n _ nodes 0 l
top-constant n nodes (suc zero) l = entry-constant n n _ nodes 1 l
top-constant n nodes (suc (suc k)) l = absurd (omega arith)

pub top-node : (n : ℕ) (nodes : List Node) → IsDiagram n nodes → (k : ℕ) (node : Node) → slice_get nodes k ≡ Some node → top n nodes (k + 2) ≡ node.input
unfolding top
top-node n nodes is k node got = entry-node n n _ nodes k node got (is.low k node got) (is.high k node got)

-- ---- a place is a constant or a node

pub record IsNodeAt (nodes : List Node) (at : ℕ) : Type 0 where
  pub k : ℕ
  pub node : Node
  pub got : slice_get nodes k ≡ Some node
  pub place : at ≡ k + 2

pub place-cases : (nodes : List Node) (at : ℕ) → IsPlace nodes at → (at < 2) ⊎ IsNodeAt nodes at
place-cases nodes at place = elim (cases_lt at 2) [
  | inl l ↦ inl l
  | inr l ↦ inr (record { k = at - 2; node = get_or nodes (at - 2) none; got = slice_get-get_or nodes (at - 2) none (omega arith); place = omega arith })
]
  where
    none : Node
    none = record { input = 0; low = 0; high = 0 }

abbrev pub node_at : (n : ℕ) (nodes : List Node) (at : ℕ) (node : Node) → IsNode n nodes at node → IsNodeAt nodes at
node_at n nodes at node h = record { k = at - 2; node = node; got = h.got; place = omega (arith, h.two) }
