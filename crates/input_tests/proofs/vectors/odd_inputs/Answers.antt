use Rattle.std.proofs.Common.{refl, ap, ◌∙◌}
use Rattle.ae_base.proofs.Sets.{has-empty}
use Rattle.expansion.specs.Counts.{is_odd}
use Rattle.input_tests.proofs.CodeLemmas.{odd_of, odds_more}
use Rattle.input_tests.proofs.vectors.odd_inputs.Goals as goal

pub loop-terms-init : goal.loop-terms-init
loop-terms-init c j = rw (c.empty-odd.ensures, has-empty j) refl

pub loop-terms-preserved : goal.loop-terms-preserved
loop-terms-preserved c j =
    odds_more j c.loop-terms.odd c.odd_in.result c.or-odd.result c.args.e.now.outs c.loop-terms.terms-index c.terms-item.result (is_odd c.args.e.now j)
    (rw c.lists-terms-items.ensures.lists at c.loop-terms-test.true) (rw c.lists-terms-items.ensures.lists at c.terms-item.is)
    (c.odd_in.ensures j ∙ ap (odd_of j) c.as_slice.ensures) c.or-odd.ensures (c.loop-terms.invariant j)
