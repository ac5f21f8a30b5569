use Rattle.std.proofs.Common.{◌≡◌, ◌+◌, ◌∙◌, List, [], ◌∷◌, ◌++◌, map, take, get_or, ap, sym}
use Rattle.std.proofs.lemmas.List.{take_more, map-append}
use Rattle.ae_base.specs.Cube.{Product}
use Rattle.factor.specs.Seen.{seen}
use Rattle.factor.proofs.Law.{sums_push}
use Rattle.factor.proofs.build.sums.Goals as goal

pub loop-cubes-preserved : goal.loop-cubes-preserved
loop-cubes-preserved c =
    let outs = c.args.outs.now in
    let i = c.loop-cubes.cubes-index in
    let cs = c.as_slice.result.now in
    let s = seen c.in_ok-sum_of.field-0 in
    let here : cs ≡ get_or outs i cs = c.as_slice.ensures ∙ c.cubes-item.is ∙ ap (get_or outs i) (sym c.as_slice.ensures) in
    let lists : take (i + 1) outs ≡ take i outs ++ cs ∷ [] = take_more outs i cs c.loop-cubes-test.true ∙ ap (λ (ds : List Product). take i outs ++ ds ∷ []) (sym here) in
    let sums : map seen c.push.new.self.items ≡ map seen c.loop-cubes.sums.items ++ s ∷ [] = ap (map seen) c.in_ok-push.ensures.items ∙ map-append seen c.loop-cubes.sums.items (c.in_ok-sum_of.field-0 ∷ []) in
    rw (lists, sums) (sums_push (take i outs) (map seen c.loop-cubes.sums.items) cs s c.loop-cubes.invariant c.in_ok-sum_of.ensures)
