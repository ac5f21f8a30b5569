-- The used inputs as one union of all terms.
use Rattle.std.proofs.Common.{◌≡◌, ◌+◌, ◌<◌, ℕ, Bool, true, false, ◌||◌, ◌&&◌, List, length, get_or, take, ltb, refl, sym, ap, ap₂, ◌∙◌}
use Rattle.std.specs.Prelude.{All}
use Rattle.std.specs.List.{list_any}
use Rattle.std.proofs.lemmas.Bool.{lt-ltb, and_from, and_parts}
use Rattle.std.proofs.lemmas.List.Folds.{list_any_more}
use Rattle.std.proofs.Math.Bool.{or_assoc}
use Rattle.ae_base.specs.Mask.{Set, has, either, inside, first, where_below}
use Rattle.ae_base.proofs.Sets.{has-either, has-where_below, inside-below, same_set}
use Rattle.ae_base.proofs.Truth.{same_truth}
use Rattle.ae_base.proofs.Elements.{Passing, any_found, All-get}
use Rattle.expansion.specs.Terms.{Terms, is_used, used_inputs}
use Rattle.expansion.specs.Kept.{IsTerms}

-- what some term holds is an input
used_below : (e : Terms) → IsTerms e → (j : ℕ) → is_used e j ≡ true → j < e.polarity.n
used_below e is j h =
    let list : Passing (λ ts. list_any (λ t. has t j) ts) e.outs = any_found (λ ts. list_any (λ t. has t j) ts) e.outs h in
    let term : Passing (λ t. has t j) list.element = any_found (λ t. has t j) list.element list.passes in
    let over : All (λ t. inside t (first e.polarity.n) ≡ true) list.element = All-get (λ ts. All (λ t. inside t (first e.polarity.n) ≡ true) ts) e.outs list.place list.element is.below list.there in
    inside-below e.polarity.n term.element (All-get (λ t. inside t (first e.polarity.n) ≡ true) list.element term.place term.element over term.there) j term.passes

pub all_used : (e : Terms) (s : Set) → IsTerms e → ((j : ℕ) → has s j ≡ is_used e j) → s ≡ used_inputs e
unfolding used_inputs
all_used e s is h = same_set s (where_below e.polarity.n (is_used e)) (λ j.
    h j ∙ same_truth _ _ (λ u. and_from _ _ (lt-ltb j e.polarity.n (used_below e is j u)) u) (λ m. (and_parts _ _ m).1) ∙ sym (has-where_below e.polarity.n (is_used e) j))
