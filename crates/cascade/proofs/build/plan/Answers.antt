use Rattle.std.proofs.Common.{◌∙◌, refl}
use Rattle.cascade.proofs.CodeLemmas.{is_plan}
use Rattle.cascade.proofs.build.plan.Goals as goal

pub returns : goal.returns
returns c = (
  is_plan _ c.lists-outs.ensures.valid c.requires.cheap c.requires.short c.in_ok-turned.ensures c.in_ok-wide.ensures
      (c.and_place-ands.ensures c.args.e.now (c.as_slice.ensures.value ∙ c.in_ok-turned.ensures) c.lists-outs.ensures.lists),
  refl,
  refl,
)
