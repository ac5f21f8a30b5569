use Rattle.std.proofs.Common.{◌∙◌, refl, sym, ap}
use Rattle.std.specs.Prelude.{None, Some, remove}
use Rattle.esop.specs.Rewriting.{cancelled, first_at}
use Rattle.esop.proofs.Steps.{taken_none, taken_some, equal_as}
use Rattle.esop.proofs.step.cancel.Goals as goal

pub returns-in-None : goal.returns-in-None
returns-in-None c =
    let cs = c.args.cubes.now.items in
    taken_none (cancelled cs) cs cs (equal_as cs None (ap (first_at 0) (sym c.as_slice.ensures.value) ∙ sym c.first_equal.ensures.pair ∙ c.in-None.is)) refl

pub returns-in-Some : goal.returns-in-Some
returns-in-Some c =
    let cs = c.args.cubes.now.items in
    taken_some (cancelled cs) cs _ _ (equal_as cs (Some (c.in-Some.first, c.in-Some.second)) (ap (first_at 0) (sym c.as_slice.ensures.value) ∙ sym c.first_equal.ensures.pair ∙ c.in-Some.is))
    (c.remove-in-Some.ensures.items ∙ ap (λ xs. remove xs c.in-Some.first) c.remove.ensures.items)
