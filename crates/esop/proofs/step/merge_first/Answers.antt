use Rattle.std.proofs.Common.{◌≡◌, ◌∙◌, refl, sym, ap, ap₂, eqb-true, length, arith}
use Rattle.std.specs.Prelude.{None, Some, remove}
use Rattle.std.proofs.lemmas.List.{get_or_read}
use Rattle.ae_base.specs.Cube.{distance, whole}
use Rattle.esop.specs.Links.{merge}
use Rattle.esop.specs.Order.{placed}
use Rattle.esop.specs.Rewriting.{merged}
use Rattle.esop.specs.Search.{first_pair}
use Rattle.esop.specs.Settled.{cube_at}
use Rattle.esop.specs.declared.pairs.Sought.TheVariants.{Adjacent}
use Rattle.esop.proofs.Steps.{taken_none, taken_some, adjacent_as, adjacent_distance}
use Rattle.esop.proofs.step.merge_first.Goals as goal

pub merge-merged-requires : goal.merge-merged-requires
merge-merged-requires c =
    let cs = c.args.cubes.now.items in
    let found : first_pair Adjacent cs ≡ Some (c.in-Some.first, c.in-Some.second) = ap (first_pair Adjacent) (sym c.as_slice.ensures.value) ∙ sym c.first_pair.ensures.pair ∙ c.in-Some.is in
    ap₂ distance (get_or_read cs c.in-Some.first _ (omega (arith, c.in-Some.ensures.within, ap length c.as_slice.ensures.value)) c.index.ensures whole)
    (get_or_read cs c.in-Some.second _ (omega (arith, c.in-Some.ensures.within, ap length c.as_slice.ensures.value)) c.index-in-Some.ensures whole)
    ∙ eqb-true _ _ (adjacent_distance cs (c.in-Some.first, c.in-Some.second) found)

pub returns-in-None : goal.returns-in-None
returns-in-None c =
    let cs = c.args.cubes.now.items in
    taken_none (merged cs) cs cs (adjacent_as cs None (ap (first_pair Adjacent) (sym c.as_slice.ensures.value) ∙ sym c.first_pair.ensures.pair ∙ c.in-None.is)) refl

pub returns-in_ok-place-in-Some : goal.returns-in_ok-place-in-Some
returns-in_ok-place-in-Some c =
    let cs = c.args.cubes.now.items in
    let found : first_pair Adjacent cs ≡ Some (c.in-Some.first, c.in-Some.second) = ap (first_pair Adjacent) (sym c.as_slice.ensures.value) ∙ sym c.first_pair.ensures.pair ∙ c.in-Some.is in
    let one : c.index.result.now ≡ cube_at cs c.in-Some.first = get_or_read cs c.in-Some.first _ (omega (arith, c.in-Some.ensures.within, ap length c.as_slice.ensures.value)) c.index.ensures whole in
    let two : c.index-in-Some.result.now ≡ cube_at cs c.in-Some.second = get_or_read cs c.in-Some.second _ (omega (arith, c.in-Some.ensures.within, ap length c.as_slice.ensures.value)) c.index-in-Some.ensures whole in
    taken_some (merged cs) cs _ _ (adjacent_as cs (Some (c.in-Some.first, c.in-Some.second)) found)
    (c.in_ok-place-in-Some.ensures ∙ ap₂ placed (c.merge-merged.ensures ∙ ap₂ merge one two) (c.remove-in-Some.ensures.items ∙ ap (λ xs. remove xs c.in-Some.first) c.remove.ensures.items))
