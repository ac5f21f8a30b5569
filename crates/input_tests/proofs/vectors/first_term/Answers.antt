use Rattle.std.proofs.Common.{sym, ap, ◌∙◌}
use Rattle.std.specs.List.{find}
use Rattle.std.specs.Prelude.{List, Some, None}
use Rattle.ae_base.specs.Mask.{Set, has}
use Rattle.input_tests.specs.Inputs.{first_term}
use Rattle.input_tests.proofs.CodeLemmas.{first_step}
use Rattle.input_tests.proofs.vectors.first_term.Goals as goal

pub returns-in-Some : goal.returns-in-Some
returns-in-Some c =
    first_step c.args.j c.args.e.now.outs c.loop-terms.terms-index c.terms-item.result (Some c.in-Some.term) (first_term c.args.e.now c.args.j)
    (rw c.lists-terms-items.ensures.lists at c.loop-terms-test.true) (rw c.lists-terms-items.ensures.lists at c.terms-item.is)
    (ap (λ (ts : List Set). find (λ t. has t c.args.j) ts) (sym c.as_slice.ensures) ∙ sym c.first_holding.ensures ∙ c.in-Some.is) c.loop-terms.invariant

pub loop-terms-preserved : goal.loop-terms-preserved
loop-terms-preserved c =
    first_step c.args.j c.args.e.now.outs c.loop-terms.terms-index c.terms-item.result None (first_term c.args.e.now c.args.j)
    (rw c.lists-terms-items.ensures.lists at c.loop-terms-test.true) (rw c.lists-terms-items.ensures.lists at c.terms-item.is)
    (ap (λ (ts : List Set). find (λ t. has t c.args.j) ts) (sym c.as_slice.ensures) ∙ sym c.first_holding.ensures ∙ c.in_default.is) c.loop-terms.invariant
