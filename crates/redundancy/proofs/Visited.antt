-- What is found for a fault is one thing, and tells of the fault what it should.
use Rattle.std.proofs.Common.{◌≡◌, ◌↔◌, ℕ, zero, suc, ◌+◌, ◌<◌, ◌≤◌, Bool, true, false, inl, inr, List, [], ◌∷◌, ◌++◌, length, refl, sym, ap, ap₂, ◌∙◌, subst, arith, ne_eqb}
use Rattle.std.specs.Prelude.{Option, Some, slice_get, replicate, ◌⊎◌}
use Rattle.std.specs.List.{AllByRecursion}
use Rattle.std.proofs.lemmas.Bool.{cases_Bool, cases_order, false_from_ne_true, and_right, or_from}
use Rattle.std.proofs.lemmas.List.{get_or-replicate, length-replicate, replicate-append-replicate}
use Rattle.std.proofs.lemmas.List.Elements.{All-from_recursion}
use Rattle.std.proofs.lemmas.Option.{get_or_from_slice_get, slice_get-get_or, slice_get_within}
use Rattle.ae_base.proofs.Elements.{All-get}
use Rattle.ae_base.specs.Mask.{Set, has}
use Rattle.ae_base.specs.Terms.{IsPoint}
use Rattle.ae_base.proofs.Distinct.{each-append}
use Rattle.ae_base.proofs.Sets.{has-with, has-without, has-empty, inside-from}
use Rattle.ae_net.specs.declared.net.Fault.{Fault}
use Rattle.ae_net.specs.Detects.{Detects}
use Rattle.ae_net.specs.Network.{Network}
use Rattle.ae_net.specs.Out.{HasOneRun}
use Rattle.redundancy.specs.declared.TheConstants.{LEAVES}
use Rattle.redundancy.specs.declared.lines.Subcube.{Subcube}
use Rattle.redundancy.specs.declared.trees.Found.{Found}
use Rattle.redundancy.specs.declared.trees.Found.TheVariants.{Tree as found_tree, TooWide, Differs}
use Rattle.redundancy.specs.Evidence.{Tree, leaf, split, written, leaf_count, IsTree, SplitsOnNeed, IsEvidenceTree, WordHolds}
use Rattle.redundancy.specs.Leaf.{whole, low, high, LeafHolds}
use Rattle.redundancy.specs.Leaves.{LeafTells}
use Rattle.redundancy.specs.Visits.{Visit, holds, detects, visits, met, IsFound, AreSame, Tells}
use Rattle.redundancy.specs.Worked.{leaf_holds}
use Rattle.redundancy.proofs.EvidenceTrees.{only_evidence, undetectable_by_evidence, WordHolds-evidence}
use Rattle.redundancy.proofs.Growths.{leaf_met, halves_met}

-- ---- a visit that detects

-- a point that is met is one of the inputs, and detects the fault
abbrev IsTrueVisit : Network → Fault → Visit → Type 0
IsTrueVisit n fault holds = Unit {0}
IsTrueVisit n fault (detects x) = IsPoint (length n.inputs) x × Detects n fault x

-- no input from here on is known to be 1
abbrev IsBelow : Subcube → Type 0
IsBelow d = (j : ℕ) → d.depth ≤ j → has d.point j ≡ false

below_low : (d : Subcube) → IsBelow d → IsBelow (low d)
below_low d h j l = has-without d.point d.depth j ∙ and_right _ _ (h j (omega arith))

below_high : (d : Subcube) → IsBelow d → IsBelow (high d)
below_high d h j l = has-with d.point d.depth j ∙ or_from _ _ (ne_eqb j d.depth (λ e. omega arith)) (h j (omega arith))

module _ (n : Network) (fault : Fault) (tells_each : (d : Subcube) → LeafTells n fault d) where
  true_visits : (m : ℕ) (d : Subcube) → m + d.depth ≡ length n.inputs → IsBelow d → AllByRecursion (IsTrueVisit n fault) (visits n fault m d)
  unfolding visits
  true_visits zero d e below = elim (cases_Bool (leaf_holds n fault d)) [
    | inl held ↦ rw held (tt, tt)
    | inr unheld ↦ rw unheld ((inside-from (length n.inputs) d.point (λ k l. below k (omega arith)), (tells_each d).detects (omega arith) unheld), tt)
  ]
  true_visits (suc m) d e below = elim (cases_Bool (leaf_holds n fault d)) [
    | inl held ↦ rw held (tt, tt)
    | inr unheld ↦
        rw unheld (each-append (IsTrueVisit n fault) (visits n fault m (low d)) (visits n fault m (high d))
        (true_visits m (low d) (omega arith) (below_low d below)) (true_visits m (high d) (omega arith) (below_high d below)))
  ]

  pub tells : (f : Found) → IsFound n fault f → Tells n fault f
  tells (found_tree word) (tree, is, e, few) = (subst (WordHolds n fault) (sym e) (WordHolds-evidence n fault tree is), undetectable_by_evidence n fault tells_each tree is)
  tells TooWide h = tt
  tells (Differs x) (k, few, leaves, there) =
      All-get (IsTrueVisit n fault) (met n fault) k (detects x)
      (All-from_recursion _ (met n fault) (true_visits (length n.inputs) whole (omega arith) (λ j l. has-empty j))) there

-- ---- one finding

module _ (n : Network) (fault : Fault) (tells_each : (d : Subcube) → LeafTells n fault d) where
  -- where there is a tree, its leaves are what is met
  met_leaves : (t : Tree) (m : ℕ) (d : Subcube) → m + d.depth ≡ length n.inputs → IsTree (length n.inputs) d.depth t → SplitsOnNeed n fault d t → visits n fault m d ≡ replicate (leaf_count t) holds
  met_leaves leaf m d e is h = (leaf_met n fault m d ((tells_each d).worked.1 h)).0
  met_leaves (split a b) zero d e is h = absurd (omega (arith, is.0, e))
  met_leaves (split a b) (suc m) d e is h =
      (halves_met n fault m d (false_from_ne_true _ (λ held. h.0 ((tells_each d).worked.0 held)))).0
      ∙ ap₂ (λ v w. v ++ w) (met_leaves a m (low d) (omega (arith, e)) (is.1) (h.1)) (met_leaves b m (high d) (omega (arith, e)) (is.2) (h.2))
      ∙ replicate-append-replicate (leaf_count a) (leaf_count b) holds

  no_more : (t : Tree) → IsEvidenceTree n fault t → (k : ℕ) (v : Visit) → slice_get (met n fault) k ≡ Some v → (k < leaf_count t) × (v ≡ holds)
  no_more t is k v e =
      let all : met n fault ≡ replicate (leaf_count t) holds = met_leaves t (length n.inputs) whole (omega arith) is.is_tree is.on_need in
      let there : slice_get (replicate (leaf_count t) holds) k ≡ Some v = ap (λ vs. slice_get vs k) (sym all) ∙ e in
      let l : k < leaf_count t = omega (arith, slice_get_within _ k v there, length-replicate (leaf_count t) holds) in
      (l, sym (get_or_from_slice_get _ k v holds there) ∙ get_or-replicate (leaf_count t) k holds holds l)

  -- too wide is what a tree of more leaves is
  pub too_wide : (t : Tree) → IsEvidenceTree n fault t → IsFound n fault TooWide ↔ (LEAVES < leaf_count t)
  too_wide t is = (
    λ wide. (no_more t is LEAVES holds (wide LEAVES (omega arith))).0,
    λ more j l.
        let c = leaf_count t in
        ap (λ vs. slice_get vs j) (met_leaves t (length n.inputs) whole (omega arith) is.is_tree is.on_need)
        ∙ slice_get-get_or (replicate c holds) j holds (omega (arith, length-replicate c holds)) ∙ ap Some (get_or-replicate c j holds holds (omega arith)),
  )

  pub only_found : (f g : Found) → IsFound n fault f → IsFound n fault g → AreSame f g
  only_found (found_tree v) (found_tree w) (t, is, e, few) (u, is', e', few') = e ∙ ap written (only_evidence n fault t u is is') ∙ sym e'
  only_found (found_tree v) TooWide (t, is, e, few) wide = omega (arith, few, (no_more t is LEAVES holds (wide LEAVES (omega arith))).0)
  only_found (found_tree v) (Differs x) (t, is, e, few) (k, l, leaves, there) = let s : detects x ≡ holds = (no_more t is k (detects x) there).1 in cc
  only_found TooWide (found_tree w) wide (t, is, e, few) = omega (arith, few, (no_more t is LEAVES holds (wide LEAVES (omega arith))).0)
  only_found TooWide TooWide wide wide' = tt
  only_found TooWide (Differs x) wide (k, l, leaves, there) = let s : Some (detects x) ≡ Some holds = sym there ∙ wide k (omega arith) in cc
  only_found (Differs x) (found_tree w) (k, l, leaves, there) (t, is, e, few) = let s : detects x ≡ holds = (no_more t is k (detects x) there).1 in cc
  only_found (Differs x) TooWide (k, l, leaves, there) wide = let s : Some (detects x) ≡ Some holds = sym there ∙ wide k (omega arith) in cc
  only_found (Differs x) (Differs y) (k, l, leaves, there) (k', l', leaves', there') =
      elim (cases_order k k') [
        | inl same ↦ let s : Some (detects x) ≡ Some (detects y) = sym there ∙ ap (slice_get (met n fault)) same ∙ there' in cc
        | inr (inl before) ↦ absurd (let s : Some (detects x) ≡ Some holds = sym there ∙ leaves' k before in let r : ⊥ = cc in r)
        | inr (inr after) ↦ absurd (let s : Some (detects y) ≡ Some holds = sym there' ∙ leaves k' after in let r : ⊥ = cc in r)
      ]
