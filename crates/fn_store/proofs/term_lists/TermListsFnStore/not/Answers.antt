use Rattle.std.proofs.Common.{true, not}
use Rattle.std.proofs.lemmas.Result.{IfOk-weaker}
use Rattle.ae_base.specs.Terms.{value}
use Rattle.fn_store.proofs.Shown.{IsExpansion-own}
use Rattle.fn_store.proofs.term_lists.TermListsFnStore.not.Goals as goal

pub add-requires : goal.add-requires
add-requires c =
    let p = c.args.self.now.polarity in
    IsExpansion-own p (λ x. not (value p c.terms-2.result.now x)) c.in_ok-terms.terms.items
    (c.in_ok-terms.ensures.expansion p (λ x. true) (value p c.terms-2.result.now) (rw c.terms.ensures.terms c.one.ensures.is) c.terms-2.ensures.is)

pub returns-clause-shows : goal.returns-clause-shows
returns-clause-shows c =
    let p = c.args.self.now.polarity in
    IfOk-weaker c.add.result _ _
    (λ r step f a. step (λ x. not (f x)) (c.in_ok-terms.ensures.expansion p (λ x. true) f (rw c.terms.ensures.terms c.one.ensures.is) (rw c.terms-2.ensures.terms a.is)))
    c.add.ensures.shows
