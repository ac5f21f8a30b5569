use Rattle.std.proofs.Common.{refl}
use Rattle.ae_base.proofs.Sets.{has-empty}
use Rattle.input_tests.proofs.CodeLemmas.{odd_more, odd_end}
use Rattle.input_tests.proofs.vectors.odd_in.Goals as goal

pub loop-term-init : goal.loop-term-init
loop-term-init c j = rw (c.empty-odd.ensures, has-empty j) refl

pub loop-term-preserved : goal.loop-term-preserved
loop-term-preserved c j =
    odd_more j c.loop-term.odd c.xor-odd.result c.args.terms.now c.loop-term.term-index c.term-item.result c.loop-term-test.true c.term-item.is c.xor-odd.ensures (c.loop-term.invariant j)

pub returns : goal.returns
returns c j = odd_end j c.loop-term.odd c.args.terms.now c.loop-term.term-index c.loop-term-test.false (c.loop-term.invariant j)
