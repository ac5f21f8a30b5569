use Rattle.std.proofs.Common.{◌≡◌, [], get_or, sym, ap, ◌∙◌}
use Rattle.std.proofs.lemmas.Option.{get_or_from_slice_get}
use Rattle.fn_store.specs.Lists.{IsLists}
use Rattle.fn_store.proofs.term_lists.TermLists.terms.Goals as goal

pub returns-clause-terms : goal.returns-clause-terms
returns-clause-terms c = c.as_slice.ensures ∙ sym (get_or_from_slice_get c.self.inside.lists c.args.a.at _ [] c.at.ensures) ∙ ap (λ s. get_or s.lists c.args.a.at []) c.self.view_is

pub returns-clause-is : goal.returns-clause-is
returns-clause-is c =
    let e : c.as_slice.result.now ≡ get_or c.args.self.now.lists c.args.a.at [] =
    c.as_slice.ensures ∙ sym (get_or_from_slice_get c.self.inside.lists c.args.a.at _ [] c.at.ensures) ∙ ap (λ s. get_or s.lists c.args.a.at []) c.self.view_is in
    let lists : IsLists c.args.self.now = rw (sym c.self.view_is) c.self.invariant in
    rw e (lists.all c.args.a c.requires).is
