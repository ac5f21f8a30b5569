use Rattle.std.proofs.Common.{rules, ◌≡◌, ◌∙◌, List, length, map, ap, subst, sym}
use Rattle.std.specs.List.{AllZip}
use Rattle.ae_base.specs.Cube.{Signs}
use Rattle.ae_base.specs.Mask.{Set}
use Rattle.esop.specs.Esop.{HasValueOf, cube_of, esop_of}
use Rattle.esop.specs.Order.{in_order}
use Rattle.esop.proofs.Lists.{all_made, made_cubes, made_values, made_counts}
use Rattle.esop.proofs.terms.from_expansion.Goals as goal

pub invariant_of-result : goal.invariant_of-result
invariant_of-result c =
    let e = c.args.e.now in
    let cubes = λ (p : Signs) (ts : List Set). in_order (map (cube_of p) ts) in
    let made : c.loop-terms.outs ≡ (esop_of e).outs =
    all_made (cubes c.polarity-polarity.result) e.outs _ _ _ c.loop-terms.invariant c.loop-terms-test.false c.lists-terms-items.ensures.lists ∙ ap (λ p. map (cubes p) e.outs) c.polarity-polarity.ensures.polarity in
    rw (c.inputs.ensures.inputs, made) (made_cubes e c.inputs.ensures.valid)

pub returns : goal.returns
returns c =
    let e = c.args.e.now in
    let cubes = λ (p : Signs) (ts : List Set). in_order (map (cube_of p) ts) in
    let made : c.loop-terms.outs ≡ (esop_of e).outs =
    all_made (cubes c.polarity-polarity.result) e.outs _ _ _ c.loop-terms.invariant c.loop-terms-test.false c.lists-terms-items.ensures.lists ∙ ap (λ p. map (cubes p) e.outs) c.polarity-polarity.ensures.polarity in
    record { lists = search rules; value = subst (λ outs. AllZip (HasValueOf e.polarity) e.outs outs) (sym made) (made_values e); count = subst (λ outs. AllZip (λ terms cubes. length cubes ≡ length terms) e.outs outs) (sym made) (made_counts e) }
