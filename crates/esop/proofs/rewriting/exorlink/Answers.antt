use Rattle.std.proofs.Common.{rules, ◌≡◌, ◌≤◌, ◌∙◌, get_or, length, map, subst, sym, ap}
use Rattle.std.specs.Prelude.{All}
use Rattle.std.specs.List.{AllZip}
use Rattle.esop.specs.Kept.{HasSameValue}
use Rattle.esop.specs.Rewriting.{rewritten}
use Rattle.esop.specs.Search.{IsOrdered}
use Rattle.esop.specs.Settled.{IsSettled}
use Rattle.esop.proofs.Lists.{all_made, ordered_lists, rewritten_cubes, rewritten_values, rewritten_counts, rewritten_settled}
use Rattle.esop.proofs.rewriting.exorlink.Goals as goal

pub rewrite-requires : goal.rewrite-requires
rewrite-requires c =
    let cs = c.as_slice.result.now in
    let outs = c.lists-cubes-items.result.now in
    let i = c.loop-cubes.cubes-index in
    let here : cs ≡ get_or outs i cs = c.as_slice.ensures ∙ c.cubes-item.is ∙ ap (get_or outs i) (sym c.as_slice.ensures) in
    let ordered : All IsOrdered outs = subst (λ os. All IsOrdered os) (sym c.lists-cubes-items.ensures.lists) (ordered_lists c.args.e c.lists-cubes-items.ensures.valid) in
    subst IsOrdered (sym here) (ordered i cs c.loop-cubes-test.true)

pub invariant_of-result : goal.invariant_of-result
invariant_of-result c =
    let made : c.loop-cubes.outs ≡ map rewritten c.args.e.outs = all_made rewritten c.args.e.outs _ _ _ c.loop-cubes.invariant c.loop-cubes-test.false c.lists-cubes-items.ensures.lists in
    rw (c.inputs.ensures.inputs, made) (rewritten_cubes c.args.e c.inputs.ensures.valid)

pub returns : goal.returns
returns c =
    let made : c.loop-cubes.outs ≡ map rewritten c.args.e.outs = all_made rewritten c.args.e.outs _ _ _ c.loop-cubes.invariant c.loop-cubes-test.false c.lists-cubes-items.ensures.lists in
    record {
      lists = search rules;
      value = subst (λ outs. AllZip HasSameValue c.args.e.outs outs) (sym made) (rewritten_values c.args.e c.inputs.ensures.valid);
      count = subst (λ outs. AllZip (λ before after. length after ≤ length before) c.args.e.outs outs) (sym made) (rewritten_counts c.args.e c.inputs.ensures.valid);
      settled = subst (λ outs. All IsSettled outs) (sym made) (rewritten_settled c.args.e);
    }
