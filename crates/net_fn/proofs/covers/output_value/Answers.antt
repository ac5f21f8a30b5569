use Rattle.std.proofs.Common.{List, ◌∙◌, ap}
use Rattle.std.proofs.lemmas.Result.{IfOk-weaker}
use Rattle.ae_base.specs.Cube.{Product}
use Rattle.ae_cover.specs.Cover.{is_one, some_row}
use Rattle.fn_store.specs.Cubes.{some_holds}
use Rattle.net_fn.proofs.Kept.{Shows-same}
use Rattle.net_fn.specs.Cofactor.{cubes_of}
use Rattle.net_fn.proofs.Outputs.{cubes-over, some_row-cubes}
use Rattle.net_fn.proofs.covers.output_value.Goals as goal

pub some_cube-requires : goal.some_cube-requires
some_cube-requires g c =
    cubes-over c.args.cover.now c.args.output c.deref.result.now (g.S.FnStore.functions c.args.store.now).polarity.n c.rows.ensures.cover
    (c.deref.ensures.value ∙ c.in_ok-cubes.ensures ∙ ap (cubes_of c.args.output) c.rows.ensures.rows) c.requires

pub returns-clause-shows : goal.returns-clause-shows
returns-clause-shows g c =
    IfOk-weaker c.some_cube.result _ _
    (λ r h. Shows-same _ r (some_holds c.deref.result.now) (some_row is_one c.args.cover.now.rows c.args.output)
    (λ x. ap (λ (cs : List Product). some_holds cs x) (c.deref.ensures.value ∙ c.in_ok-cubes.ensures ∙ ap (cubes_of c.args.output) c.rows.ensures.rows)
    ∙ some_row-cubes c.args.cover.now.rows c.args.output x) h)
    c.some_cube.ensures.shows
