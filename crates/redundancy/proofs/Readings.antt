-- What is read from a place of a word on.
use Rattle.std.proofs.Common.{◌≡◌, ℕ, ◌+◌, ◌<◌, ◌≤◌, ◌↔◌, List, [], ◌∷◌, ◌++◌, length, drop, sym, ap, ◌∙◌, arith, append_assoc, append-nil, length-drop}
use Rattle.std.proofs.lemmas.List.{drop_all}
use Rattle.std.specs.Prelude.{Option, Some, None, MatchOption}
use Rattle.ae_net.specs.declared.net.Fault.{Fault}
use Rattle.ae_net.specs.Network.{Network}
use Rattle.redundancy.specs.declared.lines.Subcube.{Subcube}
use Rattle.ae_base.specs.declared.step.Step.{Step}
use Rattle.ae_base.specs.declared.step.Step.TheVariants.{S, L}
use Rattle.redundancy.specs.Evidence.{leaf, split, written, WordHolds}
use Rattle.redundancy.specs.Leaf.{whole, low, high, LeafHolds}
use Rattle.redundancy.specs.Reading.{ReadsTo, HasNoTree}
use Rattle.redundancy.proofs.EvidenceTrees.{one_tree}

module _ (n : Network) (fault : Fault) (d : Subcube) (word : List Step) (at : ℕ) where
  -- past the end
  pub nothing_left : drop at word ≡ [] → HasNoTree n fault d word at
  nothing_left none leaf rest e stands = let s : ⊥ = cc in s
  nothing_left none (split a b) rest e stands = let s : ⊥ = cc in s

  -- the letter is `L`
  module _ (first : drop at word ≡ L ∷ drop (at + 1) word) where
    pub reads_leaf : at < length word → LeafHolds n fault d → ReadsTo n fault d word at (at + 1)
    reads_leaf l holds = record { tree = leaf; stands = record { is_tree = tt; leaves = holds }; reads = first; within = omega arith }

    pub no_leaf : (LeafHolds n fault d → ⊥) → HasNoTree n fault d word at
    no_leaf none leaf rest e stands = none stands.leaves
    no_leaf none (split a b) rest e stands = let s : ⊥ = cc in s

  -- the letter is `S`
  module _ (first : drop at word ≡ S ∷ drop (at + 1) word) where
    pub no_split : length n.inputs ≤ d.depth → HasNoTree n fault d word at
    no_split full leaf rest e stands = let s : ⊥ = cc in s
    no_split full (split a b) rest e stands = omega (arith, stands.is_tree.0)

    pub no_low : HasNoTree n fault (low d) word (at + 1) → HasNoTree n fault d word at
    no_low none leaf rest e stands = let s : ⊥ = cc in s
    no_low none (split a b) rest e stands =
        let after : drop (at + 1) word ≡ (written a ++ written b) ++ rest = cc in
        none a (written b ++ rest) (after ∙ append_assoc (written a) (written b) rest) (record { is_tree = stands.is_tree.1; leaves = stands.leaves.0 })

    pub no_high : (middle : ℕ) → ReadsTo n fault (low d) word (at + 1) middle → HasNoTree n fault (high d) word middle → HasNoTree n fault d word at
    no_high middle read none leaf rest e stands = let s : ⊥ = cc in s
    no_high middle read none (split a b) rest e stands =
        let after : drop (at + 1) word ≡ (written a ++ written b) ++ rest = cc in
        let one = one_tree read.tree a (drop middle word) (written b ++ rest) (sym read.reads ∙ after ∙ append_assoc (written a) (written b) rest) in
        none b rest (one.1) (record { is_tree = stands.is_tree.2; leaves = stands.leaves.1 })

    reads_split : d.depth < length n.inputs → (middle end : ℕ) → ReadsTo n fault (low d) word (at + 1) middle → ReadsTo n fault (high d) word middle end → ReadsTo n fault d word at end
    reads_split l middle end a b = record {
      tree = split a.tree b.tree;
      stands = record { is_tree = (l, a.stands.is_tree, b.stands.is_tree); leaves = (a.stands.leaves, b.stands.leaves) };
      reads = first ∙ ap (λ w. S ∷ w) (a.reads ∙ ap (λ w. written a.tree ++ w) b.reads ∙ sym (append_assoc (written a.tree) (written b.tree) (drop end word)));
      within = b.within;
    }

    -- after the first half
    pub reads_second : d.depth < length n.inputs → (middle : ℕ) → ReadsTo n fault (low d) word (at + 1) middle → (r : Option ℕ) → MatchOption r (HasNoTree n fault (high d) word middle) (λ end. ReadsTo n fault (high d) word middle end)
        → MatchOption r (HasNoTree n fault d word at) (λ end. ReadsTo n fault d word at end)
    reads_second l middle read None none = no_high middle read none
    reads_second l middle read (Some end) reads = reads_split l middle end read reads

-- the tree that is read from the start takes the whole word
pub checked : (n : Network) (fault : Fault) (word : List Step) (r : Option ℕ) → MatchOption r (HasNoTree n fault whole word 0) (λ end. ReadsTo n fault whole word 0 end) → (r ≡ Some (length word)) ↔ WordHolds n fault word
checked n fault word None h =
    ((λ e. absurd (let s : ⊥ = cc in s)), λ holds. absurd (h holds.whole_tree.tree [] (holds.whole_tree.is_written ∙ sym (append-nil (written holds.whole_tree.tree))) (record { is_tree = holds.whole_tree.is_tree; leaves = holds.leaves })))
checked n fault word (Some end) h = (
  λ e.
      let last : end ≡ length word = cc in
      record {
        whole_tree = record {
          tree = h.tree;
          is_written = h.reads ∙ ap (λ k. written h.tree ++ drop k word) last ∙ ap (λ w. written h.tree ++ w) (drop_all (length word) word (omega arith)) ∙ append-nil (written h.tree);
          is_tree = h.stands.is_tree;
        };
        leaves = h.stands.leaves;
      },
  λ holds.
      let one = one_tree h.tree holds.whole_tree.tree (drop end word) [] (sym h.reads ∙ holds.whole_tree.is_written ∙ sym (append-nil (written holds.whole_tree.tree))) in
      let last : end ≡ length word = omega (arith, h.within, sym (length-drop end word) ∙ ap length (one.1)) in
      ap Some last,
)
