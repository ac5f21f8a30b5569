use Rattle.std.proofs.Common.{◌∙◌, sym, ap, arith}
use Rattle.std.specs.Ordering.{is_lt}
use Rattle.std.proofs.lemmas.List.{get_or_default}
use Rattle.std.proofs.lemmas.List.Sums.{prefix_len_is}
use Rattle.ae_base.specs.Cube.{whole}
use Rattle.esop.proofs.Placed.{precedes}
use Rattle.esop.proofs.step.place_of.Goals as goal

pub returns-then-not-is_lt : goal.returns-then-not-is_lt
returns-then-not-is_lt c =
    let cs = c.args.cubes.now in
    sym (prefix_len_is (precedes c.args.cube) cs c.loop-k.k whole (omega (arith, c.loop-k-test.true)) (λ i l. c.loop-k.invariant i whole l)
    (λ l. ap (precedes c.args.cube) (get_or_default cs c.loop-k.k whole c.index-cubes-k.result l ∙ sym c.index-cubes-k.is) ∙ ap is_lt (sym c.cmp_text.ensures) ∙ sym c.is_lt.ensures ∙ c.if-not-is_lt.true))

pub returns : goal.returns
returns c =
    sym (prefix_len_is (precedes c.args.cube) c.args.cubes.now _ whole (omega arith) (λ i l. c.loop-k.invariant i whole (omega (arith, l, c.loop-k-test.false))) (λ l. absurd (omega (arith, l))))
