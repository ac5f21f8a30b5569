use Rattle.std.proofs.Common.{◌-◌, ◌∙◌, suc, length, sym, arith}
use Rattle.esop.specs.Search.{is_sought}
use Rattle.esop.proofs.Places.{range_some, range_none}
use Rattle.esop.proofs.pairs.partner.Goals as goal

pub returns-then-is_sought : goal.returns-then-is_sought
returns-then-is_sought c =
    let i = c.args.first in
    let n = length c.args.cubes.now in
    sym (range_some (λ j. is_sought c.args.sought c.args.cubes.now (i, j)) (n - suc i) (suc i) c.loop-second.second (omega (arith, c.loop-second.auto.second)) (omega (arith, c.loop-second-test.true, c.requires)) c.loop-second.invariant (sym c.is_sought.ensures ∙ c.if-is_sought.true))

pub returns : goal.returns
returns c =
    let i = c.args.first in
    let n = length c.args.cubes.now in
    sym (range_none (λ j. is_sought c.args.sought c.args.cubes.now (i, j)) (n - suc i) (suc i) (λ k low high. c.loop-second.invariant k low (omega (arith, high, c.loop-second-test.false, c.requires))))
