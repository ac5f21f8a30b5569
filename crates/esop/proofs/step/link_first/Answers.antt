use Rattle.std.proofs.Common.{◌≡◌, ◌∙◌, refl, sym, ap}
use Rattle.std.specs.Prelude.{None, Some, is_some, remove}
use Rattle.std.proofs.lemmas.Bool.{false≢true}
use Rattle.esop.specs.Order.{placed}
use Rattle.esop.specs.Rewriting.{linked, useful_link}
use Rattle.esop.specs.Search.{first_pair}
use Rattle.esop.specs.declared.pairs.Sought.TheVariants.{Linked}
use Rattle.esop.proofs.Steps.{taken_none, taken_some, no_linked, linked_at, linked_useful}
use Rattle.esop.proofs.step.link_first.Goals as goal

pub returns-in_default : goal.returns-in_default
returns-in_default c =
    let cs = c.args.cubes.now.items in
    taken_none (linked cs) cs cs (no_linked cs (ap (first_pair Linked) (sym c.as_slice.ensures.value) ∙ sym c.first_pair.ensures.pair ∙ c.in_default.is)) refl

pub unreachable-requires : goal.unreachable-requires
unreachable-requires c =
    let cs = c.args.cubes.now.items in
    let found : first_pair Linked cs ≡ Some (c.in-Some.first, c.in-Some.second) = ap (first_pair Linked) (sym c.as_slice.ensures.value) ∙ sym c.first_pair.ensures.pair ∙ c.in-Some.is in
    let none : useful_link cs (c.in-Some.first, c.in-Some.second) ≡ None = ap (λ xs. useful_link xs (c.in-Some.first, c.in-Some.second)) (sym c.as_slice-2.ensures.value) ∙ sym c.useful_link.ensures ∙ c.in_default-useful_link.is in
    false≢true (sym (ap is_some none) ∙ linked_useful cs (c.in-Some.first, c.in-Some.second) found)

pub returns : goal.returns
returns c =
    let cs = c.args.cubes.now.items in
    let l = c.in-Some-useful_link.link in
    let found : first_pair Linked cs ≡ Some (c.in-Some.first, c.in-Some.second) = ap (first_pair Linked) (sym c.as_slice.ensures.value) ∙ sym c.first_pair.ensures.pair ∙ c.in-Some.is in
    let useful : useful_link cs (c.in-Some.first, c.in-Some.second) ≡ Some l = ap (λ xs. useful_link xs (c.in-Some.first, c.in-Some.second)) (sym c.as_slice-2.ensures.value) ∙ sym c.useful_link.ensures ∙ c.in-Some-useful_link.is in
    taken_some (linked cs) cs _ _ (linked_at cs (c.in-Some.first, c.in-Some.second) l found useful)
    (c.in_ok-place-2.ensures ∙ ap (placed l.first) (c.in_ok-place.ensures ∙ ap (placed l.second) (c.remove-2.ensures.items ∙ ap (λ xs. remove xs c.in-Some.first) c.remove.ensures.items)))
