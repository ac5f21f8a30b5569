use Rattle.std.proofs.Common.{◌≡◌, ◌++◌, ◌∷◌, [], ap, ◌∙◌}
use Rattle.ae_base.specs.Terms.{value}
use Rattle.fn_store.specs.Davio.{IsExpansion}
use Rattle.fn_store.proofs.Stored.{IsLists-push}
use Rattle.fn_store.proofs.term_lists.TermLists.add.Goals as goal

pub invariant_of-self-2 : goal.invariant_of-self-2
invariant_of-self-2 c =
    let p : c.self.inside.polarity ≡ c.args.self.now.polarity = ap (λ s. s.polarity) c.self.view_is in
    let is : IsExpansion c.self.inside.polarity (value c.self.inside.polarity c.args.terms.items) c.args.terms.items = rw p c.requires in
    IsLists-push (record { polarity = c.self.inside.polarity; zero = c.self.inside.zero; one = c.self.inside.one; lists = c.self.inside.lists })
    c.push.new.self c.args.terms.items (c.in_ok-push.ensures.ok ∙ ap (λ ts. c.self.inside.lists ++ ts ∷ []) c.from_vec.ensures) is c.self.invariant
