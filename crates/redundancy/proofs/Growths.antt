-- How the search for a tree goes on, subcube by subcube, and what it finds: the tree of the fault, or the first visit that ends the search.
use Rattle.std.proofs.Common.{◌≡◌, ℕ, zero, suc, ◌+◌, ◌-◌, ◌<◌, Bool, true, false, inl, inr, List, [], ◌∷◌, ◌++◌, length, refl, sym, ap, ◌∙◌, arith, append_assoc, length-append, ◌≤◌, cond, ap₂, subst, eqb}
use Rattle.std.specs.Prelude.{◌⊎◌, Option, Some, None, IfNone, slice_get, unwrap_or}
use Rattle.std.specs.Option.{option_or}
use Rattle.std.proofs.lemmas.Bool.{cases_eq, eq-eqb, ne_eqb, false≢true, cases_Bool}
use Rattle.ae_net.specs.declared.net.Fault.{Fault}
use Rattle.ae_net.specs.Network.{Network}
use Rattle.redundancy.specs.declared.TheConstants.{LEAVES}
use Rattle.redundancy.specs.declared.lines.Subcube.{Subcube}
use Rattle.redundancy.specs.declared.trees.Found.{Found}
use Rattle.redundancy.specs.declared.trees.Found.TheVariants.{TooWide, Differs, Tree as found_tree}
use Rattle.redundancy.specs.declared.trees.Growth.{Growth}
use Rattle.ae_base.specs.declared.step.Step.{Step}
use Rattle.ae_base.specs.declared.step.Step.TheVariants.{S}
use Rattle.redundancy.specs.Evidence.{leaf, split, written, leaf_count, SplitsOnNeed}
use Rattle.redundancy.specs.Growing.{first_stop, tree_of, AddsLeaf, AddsSplit, Grows}
use Rattle.redundancy.specs.Leaf.{low, high, whole}
use Rattle.redundancy.specs.Visits.{Visit, holds, detects, visits, met, BeginsWithLeaves, IsFound}
use Rattle.redundancy.specs.Worked.{leaf_holds}
use Rattle.std.proofs.lemmas.Option.{none-some}
use Rattle.redundancy.specs.Leaves.{LeafTells}
use Rattle.redundancy.proofs.EvidenceTrees.{IsTree-tree_of}

-- ---- what ends the search in two parts

-- a leaf more, where there is room for it
pub room : (l : ℕ) (vs : List Visit) → ((l ≡ LEAVES) × (first_stop l (holds ∷ vs) ≡ Some TooWide)) ⊎ ((l ≡ LEAVES → ⊥) × (first_stop l (holds ∷ vs) ≡ first_stop (suc l) vs))
room l vs = elim (cases_eq l LEAVES) [ inl e ↦ inl (e, rw (eq-eqb l LEAVES e) refl) | inr e ↦ inr (e, rw (ne_eqb l LEAVES e) refl) ]

pub first_stop-append : (l : ℕ) (a b : List Visit) → first_stop l (a ++ b) ≡ option_or (first_stop l a) (first_stop (l + length a) b)
first_stop-append l [] b = let z : l ≡ l + 0 = omega arith in ap (λ k. first_stop k b) z
first_stop-append l (holds ∷ a) b = elim (cases_eq l LEAVES) [
  | inl e ↦ rw (eq-eqb l LEAVES e) refl
  | inr e ↦ rw (ne_eqb l LEAVES e) (first_stop-append (suc l) a b ∙ ap (λ k. option_or (first_stop (suc l) a) (first_stop k b)) (let z : suc l + length a ≡ l + suc (length a) = omega arith in z))
]
first_stop-append l (detects x ∷ a) b = refl

-- ---- what is met

pub leaf_met : (n : Network) (fault : Fault) (m : ℕ) (d : Subcube) → leaf_holds n fault d ≡ true → (visits n fault m d ≡ holds ∷ []) × (tree_of n fault m d ≡ leaf)
unfolding visits tree_of
leaf_met n fault zero d e = (rw e refl, refl)
leaf_met n fault (suc m) d e = (rw e refl, rw e refl)

pub visits_point : (n : Network) (fault : Fault) (d : Subcube) → leaf_holds n fault d ≡ false → visits n fault 0 d ≡ detects d.point ∷ []
unfolding visits
visits_point n fault d e = rw e refl

pub halves_met : (n : Network) (fault : Fault) (m : ℕ) (d : Subcube) → leaf_holds n fault d ≡ false
    → (visits n fault (suc m) d ≡ visits n fault m (low d) ++ visits n fault m (high d)) × (tree_of n fault (suc m) d ≡ split (tree_of n fault m (low d)) (tree_of n fault m (high d)))
unfolding visits tree_of
halves_met n fault m d e = (rw e refl, rw e refl)

-- ---- steps

none_weaker : (o : Option Found) (P Q : Type 0) → (P → Q) → IfNone o P → IfNone o Q
none_weaker None P Q f h = f h
none_weaker (Some x) P Q f h = h

none_both : (o : Option Found) (P Q : Type 0) → IfNone o P → IfNone o Q → IfNone o (P × Q)
none_both None P Q g h = (g, h)
none_both (Some x) P Q g h = g

module _ (n : Network) (fault : Fault) where
  pub grows_leaf : (m : ℕ) (d : Subcube) (old new : Growth) → leaf_holds n fault d ≡ true → (stop : Option Found) → AddsLeaf old new stop → Grows n fault m d old new stop
  grows_leaf m d old new e stop adds = record {
    stop_is = adds.stop_is ∙ ap (first_stop old.leaves) (sym (leaf_met n fault m d e).0);
    grown = none_weaker stop _ _
        (λ (word, leaves). record { word = word ∙ ap (λ t. old.word.items ++ written t) (sym (leaf_met n fault m d e).1); leaves = leaves ∙ ap (λ vs. old.leaves + length vs) (sym (leaf_met n fault m d e).0) })
        (none_both stop _ _ adds.word adds.leaves);
  }

  pub grows_point : (m : ℕ) (d : Subcube) (old new : Growth) → leaf_holds n fault d ≡ false → m ≡ 0 → Grows n fault m d old new (Some (Differs d.point))
  grows_point m d old new e none = record { stop_is = ap (first_stop old.leaves) (sym (ap (λ k. visits n fault k d) none ∙ visits_point n fault d e)); grown = tt }

  module _ (d : Subcube) (old start mid : Growth) (e : leaf_holds n fault d ≡ false) (deeper : d.depth < length n.inputs) (adds : AddsSplit old start) where
    abbrev m : ℕ
    m = length n.inputs - suc d.depth

    abbrev k : ℕ
    k = length n.inputs - d.depth

    more : k ≡ suc m
    more = omega arith

    pub grows_stopped : (found : Found) (new : Growth) → Grows n fault m (low d) start mid (Some found) → Grows n fault k d old new (Some found)
    grows_stopped found new grows = record {
      stop_is =
          sym (ap (λ k. first_stop old.leaves (visits n fault k d)) more
          ∙ ap (first_stop old.leaves) (halves_met n fault m d e).0
          ∙ first_stop-append old.leaves (visits n fault m (low d)) (visits n fault m (high d))
          ∙ ap (λ o. option_or o (first_stop (old.leaves + length (visits n fault m (low d))) (visits n fault m (high d)))) (ap (λ l. first_stop l (visits n fault m (low d))) (sym adds.leaves) ∙ sym grows.stop_is));
      grown = tt;
    }

    pub grows_both : Grows n fault m (low d) start mid None → (new : Growth) (stop : Option Found) → Grows n fault m (high d) mid new stop → Grows n fault k d old new stop
    grows_both first new stop second =
        let a = visits n fault m (low d) in
        let b = visits n fault m (high d) in
        let before : first_stop old.leaves a ≡ None = ap (λ l. first_stop l a) (sym adds.leaves) ∙ sym first.stop_is in
        let all : visits n fault k d ≡ a ++ b = ap (λ k. visits n fault k d) more ∙ (halves_met n fault m d e).0 in
        let count : mid.leaves ≡ old.leaves + length a = first.grown.leaves ∙ ap (λ l. l + length a) adds.leaves in
        let tree : tree_of n fault k d ≡ split (tree_of n fault m (low d)) (tree_of n fault m (high d)) = ap (λ k. tree_of n fault k d) more ∙ (halves_met n fault m d e).1 in
        record {
          stop_is = second.stop_is ∙ ap (λ l. first_stop l b) count ∙ sym (ap (first_stop old.leaves) all ∙ first_stop-append old.leaves a b ∙ ap (λ o. option_or o (first_stop (old.leaves + length a) b)) before);
          grown = none_weaker stop _ _
              (λ grown. record {
                word = grown.word ∙ words (old.word.items) (start.word.items) (mid.word.items) (written (tree_of n fault m (low d))) (written (tree_of n fault m (high d))) adds.word first.grown.word ∙ ap (λ t. old.word.items ++ written t) (sym tree);
                leaves = omega (arith, grown.leaves, count, ap length all, length-append a b);
              })
              second.grown;
        }
      where
        words : (o s i x y : List Step) → s ≡ o ++ S ∷ [] → i ≡ s ++ x → i ++ y ≡ o ++ S ∷ (x ++ y)
        words o s i x y f g = ap (λ w. w ++ y) (g ∙ ap (λ w. w ++ x) f) ∙ ap (λ w. w ++ y) (append_assoc o (S ∷ []) x) ∙ append_assoc o (S ∷ x) y

-- ---- the first stop in a list of visits

-- with no stop there are few leaves
few_visits : (l : ℕ) (vs : List Visit) → l ≤ LEAVES → first_stop l vs ≡ None → l + length vs ≤ LEAVES
few_visits l [] h e = omega arith
few_visits l (holds ∷ vs) h e = elim (room l vs) [
  | inl r ↦ absurd (none-some TooWide (sym e ∙ r.1))
  | inr r ↦ omega (arith, few_visits (suc l) vs (omega (arith, r.0, h)) (sym r.1 ∙ e))
]
few_visits l (detects x ∷ vs) h e = absurd (let s : ⊥ = cc in s)

-- too many leaves come before any stop
wide_visits : (l : ℕ) (vs : List Visit) → first_stop l vs ≡ Some TooWide → (j : ℕ) → l + j ≤ LEAVES → slice_get vs j ≡ Some holds
wide_visits l [] e j h = absurd (let s : ⊥ = cc in s)
wide_visits l (holds ∷ vs) e zero h = refl
wide_visits l (holds ∷ vs) e (suc j) h = elim (room l vs) [ inl r ↦ absurd (omega (arith, r.0, h)) | inr r ↦ wide_visits (suc l) vs (sym r.1 ∙ e) j (omega (arith, h)) ]
wide_visits l (detects x ∷ vs) e j h = absurd (let s : ⊥ = cc in s)

-- the first visit that detects comes after few leaves
abbrev DetectsAt : ℕ → List Visit → ℕ → ℕ → Type 0
DetectsAt l vs x k = (l + k ≤ LEAVES) × BeginsWithLeaves k vs × (slice_get vs k ≡ Some (detects x))

differing_visit : (l : ℕ) (vs : List Visit) (x : ℕ) → l ≤ LEAVES → first_stop l vs ≡ Some (Differs x) → (k : ℕ) × DetectsAt l vs x k
differing_visit l [] x h e = absurd (let s : ⊥ = cc in s)
differing_visit l (holds ∷ vs) x h e = elim (room l vs) [
  | inl r ↦ absurd (let s : Some TooWide ≡ Some (Differs x) = sym r.1 ∙ e in let z : ⊥ = cc in z)
  | inr r ↦
      let at = differing_visit (suc l) vs x (omega (arith, r.0, h)) (sym r.1 ∙ e) in
      (suc at.0, (omega (arith, at.1.0), begins at.0 at.1.1, at.1.2))
]
  where
    begins : (k : ℕ) → BeginsWithLeaves k vs → BeginsWithLeaves (suc k) (holds ∷ vs)
    begins k leaves zero m = refl
    begins k leaves (suc j) m = leaves j (omega arith)
differing_visit l (detects y ∷ vs) x h e = (0, (omega arith, λ j m. absurd (omega (arith, m)), (let s : y ≡ x = cc in ap (λ z. Some (detects z)) s)))

-- no stop is a tree
no_tree : (l : ℕ) (vs : List Visit) (w : Growth) → first_stop l vs ≡ Some (found_tree w.word) → ⊥
no_tree l [] w e = cc
no_tree l (holds ∷ vs) w e = elim (room l vs) [ inl r ↦ (let s : Some TooWide ≡ Some (found_tree w.word) = sym r.1 ∙ e in cc) | inr r ↦ no_tree (suc l) vs w (sym r.1 ∙ e) ]
no_tree l (detects x ∷ vs) w e = cc

-- ---- with no stop, the tree that is gone through is that of the fault

first_none : (l : ℕ) (a b : List Visit) → first_stop l (a ++ b) ≡ None → first_stop l a ≡ None
first_none l a b e = by_stop (first_stop l a) (sym (first_stop-append l a b) ∙ e)
  where
    by_stop : (o : Option Found) → option_or o (first_stop (l + length a) b) ≡ None → o ≡ None
    by_stop None h = refl
    by_stop (Some f) h = h

module _ (n : Network) (fault : Fault) where
  leaf_count-tree_of : (m : ℕ) (d : Subcube) → leaf_count (tree_of n fault m d) ≡ length (visits n fault m d)
  unfolding tree_of visits
  leaf_count-tree_of zero d = elim (cases_Bool (leaf_holds n fault d)) [ inl e ↦ rw e refl | inr e ↦ rw e refl ]
  leaf_count-tree_of (suc m) d = elim (cases_Bool (leaf_holds n fault d)) [
    | inl e ↦ rw e refl
    | inr e ↦ rw e (omega (arith, leaf_count-tree_of m (low d), leaf_count-tree_of m (high d), length-append (visits n fault m (low d)) (visits n fault m (high d))))
  ]

  split_on_need : ((d : Subcube) → LeafTells n fault d) → (m : ℕ) (d : Subcube) (l : ℕ) → first_stop l (visits n fault m d) ≡ None → SplitsOnNeed n fault d (tree_of n fault m d)
  unfolding tree_of visits
  split_on_need tells zero d l e = elim (cases_Bool (leaf_holds n fault d)) [
    | inl held ↦ (tells d).worked.0 held
    | inr unheld ↦ absurd (none-some (Differs d.point) (sym (rw unheld at e)))
  ]
  split_on_need tells (suc m) d l e = elim (cases_Bool (leaf_holds n fault d)) [
    | inl held ↦ rw held ((tells d).worked.0 held)
    | inr unheld ↦
        let a = visits n fault m (low d) in
        let b = visits n fault m (high d) in
        let both : first_stop l (a ++ b) ≡ None = rw unheld at e in
        let first : first_stop l a ≡ None = first_none l a b both in
        let second : first_stop (l + length a) b ≡ None = sym (first_stop-append l a b ∙ ap (λ o. option_or o (first_stop (l + length a) b)) first) ∙ both in
        rw unheld (λ leaf. false≢true (sym unheld ∙ (tells d).worked.1 leaf), split_on_need tells m (low d) l first, split_on_need tells m (high d) (l + length a) second)
  ]

  pub found : ((d : Subcube) → LeafTells n fault d) → (old new : Growth) → old.word.items ≡ [] → old.leaves ≡ 0 → (stop : Option Found) → Grows n fault (length n.inputs - whole.depth) whole old new stop → IsFound n fault (unwrap_or stop (found_tree new.word))
  found tells old new empty none stop grows =
      let inputs : length n.inputs - whole.depth ≡ length n.inputs = omega arith in
      let stop_is : stop ≡ first_stop 0 (met n fault) = grows.stop_is ∙ ap₂ (λ l k. first_stop l (visits n fault k whole)) none inputs in
      by_stop stop stop_is grows
    where
      by_stop : (stop : Option Found) → stop ≡ first_stop 0 (met n fault) → Grows n fault (length n.inputs - whole.depth) whole old new stop → IsFound n fault (unwrap_or stop (found_tree new.word))
      by_stop None e grows =
          let inputs : length n.inputs - whole.depth ≡ length n.inputs = omega arith in
          let all : length n.inputs + whole.depth ≡ length n.inputs = omega arith in
          let few : 0 + length (met n fault) ≤ LEAVES = few_visits 0 (met n fault) (omega arith) (sym e) in (
            tree_of n fault (length n.inputs) whole,
            record { is_tree = IsTree-tree_of n fault (length n.inputs) whole all; on_need = split_on_need tells (length n.inputs) whole 0 (sym e) },
            grows.grown.word ∙ ap (λ w. w ++ written (tree_of n fault (length n.inputs - whole.depth) whole)) empty ∙ ap (λ k. written (tree_of n fault k whole)) inputs,
            omega (arith, leaf_count-tree_of (length n.inputs) whole, few),
          )
      by_stop (Some (found_tree w)) e grows = absurd (no_tree 0 (met n fault) (record { word = w; leaves = 0 }) (sym e))
      by_stop (Some TooWide) e grows = λ j l. wide_visits 0 (met n fault) (sym e) j (omega (arith, l))
      by_stop (Some (Differs x)) e grows = let at = differing_visit 0 (met n fault) x (omega arith) (sym e) in (at.0, omega (arith, at.1.0), at.1.1, at.1.2)
