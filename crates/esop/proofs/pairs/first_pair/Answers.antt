use Rattle.std.proofs.Common.{◌∙◌, length, sym, arith}
use Rattle.esop.specs.Search.{first_pair, is_sought}
use Rattle.esop.proofs.Places.{pair_at, pair_found, pair_nowhere}
use Rattle.esop.proofs.pairs.first_pair.Goals as goal

pub returns-in-Some-clause-pair : goal.returns-in-Some-clause-pair
unfolding first_pair
returns-in-Some-clause-pair c =
    sym (pair_at (is_sought c.args.sought c.args.cubes.now) (length c.args.cubes.now) c.loop-first.first c.in-Some.second c.loop-first-test.true c.loop-first.invariant (sym c.partner.ensures ∙ c.in-Some.is))

pub returns-in-Some-clause-within : goal.returns-in-Some-clause-within
returns-in-Some-clause-within c =
    let q = is_sought c.args.sought c.args.cubes.now in
    let n = length c.args.cubes.now in
    let found = pair_found q n (c.loop-first.first, c.in-Some.second) (pair_at q n c.loop-first.first c.in-Some.second c.loop-first-test.true c.loop-first.invariant (sym c.partner.ensures ∙ c.in-Some.is)) in
    (found.order, found.within)

pub returns-clause-pair : goal.returns-clause-pair
unfolding first_pair
returns-clause-pair c =
    sym (pair_nowhere (is_sought c.args.sought c.args.cubes.now) (length c.args.cubes.now) (λ h l. c.loop-first.invariant h (omega (arith, l, c.loop-first-test.false))))
