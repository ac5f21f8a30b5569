-- A diagram while nodes are added.
use Rattle.std.proofs.Common.{◌≡◌, ◌≢◌, ℕ, zero, suc, ◌+◌, ◌<◌, ◌≤◌, Bool, true, false, ◌&&◌, ◌⊎◌, inl, inr, List, [], ◌∷◌, ◌++◌, length, get_or, slice_get, Option, Some, refl, ap, ap₂, sym, subst, ◌∙◌, arith, length-append, append_assoc, cond}
use Rattle.std.specs.List.{list_any}
use Rattle.std.proofs.Math.ListN.{get_or-append}
use Rattle.std.proofs.Math.Seq.{get_or-append_seam}
use Rattle.std.proofs.lemmas.List.{append-nil}
use Rattle.std.proofs.lemmas.Option.{slice_get_within, slice_get-get_or, get_or_from_slice_get, none-some, same_Some}
use Rattle.std.proofs.lemmas.List.Folds.{list_any_at}
use Rattle.std.proofs.lemmas.Bool.{cases_lt, cases_Bool, false≢true, or_left, or_right, and_right}
use Rattle.ae_base.specs.Mask.{Set, differ, empty}
use Rattle.ae_base.proofs.Truth.{differ-false}
use Rattle.ae_base.specs.Cube.{Signs}
use Rattle.ae_base.specs.Terms.{literal}
use Rattle.davio_dd.specs.declared.node.Node.{Node}
use Rattle.davio_dd.specs.declared.node.Question.{Question}
use Rattle.davio_dd.specs.Diagram.{place_value, place_terms, top, IsDiagram, IsPlace, IsAnswer, AllRight}
use Rattle.davio_dd.specs.Scratch.{Grows, IsAdded, IsLater}
use Rattle.davio_dd.proofs.Places.{entry-grows, value-zero, value-node}

pub top-grows : (n : ℕ) (before after : List Node) → Grows before after → (at : ℕ) → IsPlace before at → top n after at ≡ top n before at
unfolding top
top-grows n before after g at place = ap (λ (ns : List Node). top n ns at) g.1 ∙ entry-grows n n _ before g.0 at place

pub terms-grows : (before after : List Node) → Grows before after → (at : ℕ) → IsPlace before at → place_terms after at ≡ place_terms before at
unfolding place_terms
terms-grows before after g at place = ap (λ (ns : List Node). place_terms ns at) g.1 ∙ entry-grows [] (empty ∷ []) _ before g.0 at place

pub length-grows : (before after : List Node) → Grows before after → length before ≤ length after
length-grows before after g = omega (arith, ap length g.1, length-append before g.0)

pub Grows-trans : (a b c : List Node) → Grows a b → Grows b c → Grows a c
Grows-trans a b c g h = (g.0 ++ h.0, h.1 ∙ ap (λ l. l ++ h.0) g.1 ∙ append_assoc a g.0 h.0)

pub Grows-added : (before : List Node) (node : Node) (after : List Node) → IsAdded before node after → Grows before after
Grows-added before node after (inl same) = ([], same ∙ sym (append-nil before))
Grows-added before node after (inr (absent, more)) = (node ∷ [], more)

-- ---- the invariant, where a node was added

each-added : (P : ℕ → Node → Type 0) (before : List Node) (node : Node) → ((k : ℕ) (m : Node) → slice_get before k ≡ Some m → P k m) → P (length before) node
    → (k : ℕ) (m : Node) → slice_get (before ++ node ∷ []) k ≡ Some m → P k m
each-added P before node old new k m got = by_place (cases_lt k (length before))
  where
    value : get_or (before ++ node ∷ []) k m ≡ m
    value = get_or_from_slice_get (before ++ node ∷ []) k m m got

    by_place : (k < length before) ⊎ (length before ≤ k) → P k m
    by_place (inl l) = old k m (slice_get-get_or before k m l ∙ ap Some (sym (get_or-append before (node ∷ []) m k l) ∙ value))
    by_place (inr l) =
        let here : length before ≡ k = omega (arith, slice_get_within (before ++ node ∷ []) k m got, length-append before (node ∷ [])) in
        let is : node ≡ m = sym (get_or-append_seam before node [] m) ∙ ap (λ i. get_or (before ++ node ∷ []) i m) here ∙ value in
        subst (λ (i : ℕ). P i m) here (subst (λ (v : Node). P (length before) v) is new)

once_added : (before : List Node) (node : Node) → ((k : ℕ) → slice_get before k ≢ Some node) → ((j k : ℕ) (m : Node) → slice_get before j ≡ Some m → slice_get before k ≡ Some m → j ≡ k)
    → (j : ℕ) (m : Node) → slice_get (before ++ node ∷ []) j ≡ Some m → (k : ℕ) → slice_get (before ++ node ∷ []) k ≡ Some m → j ≡ k
once_added before node absent once =
    each-added (λ j m. (k : ℕ) → slice_get (before ++ node ∷ []) k ≡ Some m → j ≡ k) before node
    (λ j m old k got. each-added (λ k v. slice_get before j ≡ Some v → j ≡ k) before node (λ k v old_k old_j. once j k v old_j old_k) (λ old_j. absurd (absent j old_j)) k m got old)
    (λ k got. each-added (λ k v. v ≡ node → length before ≡ k) before node (λ k v old_k e. absurd (absent k (old_k ∙ ap Some e))) (λ e. refl) k node got refl)

pub diagram-added : (n : ℕ) (before : List Node) (node : Node) (after : List Node) → IsDiagram n before → IsPlace before node.low → IsPlace before node.high → 0 < node.high → node.input < n
    → node.input < top n before node.low → node.input < top n before node.high → IsAdded before node after → IsDiagram n after
diagram-added n before node after is low high some below before_low before_high (inl same) = subst (IsDiagram n) (sym same) is
diagram-added n before node after is low high some below before_low before_high (inr (absent, more)) = subst (IsDiagram n) (sym more) (record {
  low = each-added (λ k m. m.low < k + 2) before node is.low low;
  high = each-added (λ k m. m.high < k + 2) before node is.high high;
  some = each-added (λ k m. 0 < m.high) before node is.some some;
  below = each-added (λ k m. m.input < n) before node is.below below;
  before_low = each-added (λ k m. m.input < top n (before ++ node ∷ []) m.low) before node
      (λ k m got. let l = is.low k m got in let w = slice_get_within before k m got in omega (arith, is.before_low k m got, top-grows n before (before ++ node ∷ []) (node ∷ [], refl) m.low (omega arith)))
      (omega (arith, top-grows n before (before ++ node ∷ []) (node ∷ [], refl) node.low low));
  before_high = each-added (λ k m. m.input < top n (before ++ node ∷ []) m.high) before node
      (λ k m got. let l = is.high k m got in let w = slice_get_within before k m got in omega (arith, is.before_high k m got, top-grows n before (before ++ node ∷ []) (node ∷ [], refl) m.high (omega arith)))
      (omega (arith, top-grows n before (before ++ node ∷ []) (node ∷ [], refl) node.high high));
  once = λ j k m got also. once_added before node absent is.once j m got k also;
})

-- ---- what was right stays right

-- the polarity is the same, and the list begins with the other
abbrev pub Moved : Signs → List Node → Signs → List Node → Type 0
Moved p n q m = (q ≡ p) × Grows n m

pub Moved-trans : (p q r : Signs) (n m l : List Node) → Moved p n q m → Moved q m r l → Moved p n r l
Moved-trans p q r n m l (e, g) (f, h) = (f ∙ e, Grows-trans n m l g h)

pub place-moved : (p q : Signs) (n m : List Node) → Moved p n q m → (at : ℕ) → IsPlace n at → IsPlace m at
place-moved p q n m (e, g) at place = omega (arith, length-grows n m g)

pub top-moved : (p q : Signs) (n m : List Node) → Moved p n q m → (at : ℕ) → IsPlace n at → top q.n m at ≡ top p.n n at
top-moved p q n m (e, g) at place = ap (λ (s : Signs). top s.n m at) e ∙ top-grows p.n n m g at place

pub value-moved : (p q : Signs) (n m : List Node) → Moved p n q m → (at : ℕ) → IsPlace n at → (x : Set) → place_value q m at x ≡ place_value p n at x
unfolding place_value
value-moved p q n m (e, g) at place x = ap₂ (λ (s : Signs) (ns : List Node). place_value s ns at x) e g.1 ∙ entry-grows false true _ n g.0 at place

pub answer-moved : (op : Bool → Bool → Bool) (p q : Signs) (n m : List Node) → Moved p n q m → (a b r : ℕ) → IsAnswer op p n a b r → IsAnswer op q m a b r
answer-moved op p q n m moved a b r h = record {
  left_place = place-moved p q n m moved a h.left_place;
  right_place = place-moved p q n m moved b h.right_place;
  place = place-moved p q n m moved r h.place;
  is = λ x. value-moved p q n m moved r h.place x ∙ h.is x ∙ ap₂ op (sym (value-moved p q n m moved a h.left_place x)) (sym (value-moved p q n m moved b h.right_place x));
  over = λ j la lb.
      omega (arith, top-moved p q n m moved r h.place, h.over j (omega (arith, la, top-moved p q n m moved a h.left_place)) (omega (arith, lb, top-moved p q n m moved b h.right_place)));
}

pub right-grows : (op : Bool → Bool → Bool) (p : Signs) (before after : List Node) (known : Question → Option ℕ) → Grows before after → AllRight op p before known → AllRight op p after known
right-grows op p before after known g right q r got = answer-moved op p p before after (refl, g) q.left q.right r (right q r got)

pub later-moved : (p q : Signs) (n m : List Node) → Moved p n q m → (i at : ℕ) → IsLater p.n n i at → IsLater q.n m i at
later-moved p q n m moved i at is = record { place = place-moved p q n m moved at is.place; over = omega (arith, is.over, top-moved p q n m moved at is.place) }

-- ---- the place of a node that is there

pub node-value : (p : Signs) (before after : List Node) (k : ℕ) (node : Node) → IsDiagram p.n after → Grows before after → slice_get after k ≡ Some node → IsPlace before node.low → IsPlace before node.high
    → (at : ℕ) → at ≡ k + 2 → (x : Set) → place_value p after at x ≡ differ (place_value p before node.low x) (literal p node.input x && place_value p before node.high x)
node-value p before after k node is g got low high at e x =
    ap (λ a. place_value p after a x) e
    ∙ value-node p p.n after is k node got x
    ∙ ap₂ (λ a b. differ a (literal p node.input x && b)) (value-moved p p before after (refl, g) node.low low x) (value-moved p p before after (refl, g) node.high high x)

-- ---- a set after an insert

any-got : (h : Node → Bool) (ns : List Node) (k : ℕ) (m : Node) → slice_get ns k ≡ Some m → h m ≡ true → list_any h ns ≡ true
any-got h ns k m got e = list_any_at h ns k m (slice_get_within ns k m got) (ap h (get_or_from_slice_get ns k m m got) ∙ e)

pub added-key : (eq : Node → Node → Bool) → ((n : Node) → eq n n ≡ true) → (before : List Node) (node : Node) (after : List Node)
    → after ≡ cond (list_any (eq node) before) before (before ++ node ∷ []) → IsAdded before node after
added-key eq self before node after h = elim (cases_Bool (list_any (eq node) before)) [
  | inl e ↦ inl (rw e at h)
  | inr e ↦ inr (λ k got. false≢true (sym e ∙ any-got (eq node) before k node got (self node)), rw e at h)
]
