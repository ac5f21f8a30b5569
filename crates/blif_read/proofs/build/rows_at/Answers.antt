use Rattle.std.proofs.Common.{◌≡◌, ◌∷◌, ◌++◌, [], List, map, drop, ◌+◌, sym, ap, ◌∙◌}
use Rattle.ae_base.specs.Cube.{Product}
use Rattle.blif_read.specs.Build as spec
use Rattle.blif_read.proofs.Cubes.{rows_more, rows_stop}
use Rattle.blif_read.proofs.build.rows_at.Goals as goal

pub returns-in-None : goal.returns-in-None
returns-in-None c = rows_stop c.args.pins c.args.lines.now c.loop-line.line-index c.line-item.result c.loop-line.rows _ c.loop-line-test.true (sym c.line-item.is) (sym c.in_ok-chars.ensures ∙ c.in-None.is) c.loop-line.invariant

pub loop-line-preserved : goal.loop-line-preserved
loop-line-preserved c =
    let k = c.loop-line.line-index in
    let row : c.row_cube.result ≡ spec.row_cube c.args.pins c.in-Some.chars = c.row_cube.ensures ∙ ap (spec.row_cube c.args.pins) c.as_slice.ensures in
    let pushed : c.push.new.self ≡ c.loop-line.rows ++ spec.row_cube c.args.pins c.in-Some.chars ∷ [] = c.in_ok-push-in-Some.ensures.ok ∙ ap (λ (r : Product). c.loop-line.rows ++ r ∷ []) row in
    ap (λ (rows : List Product). rows ++ map (spec.row_cube c.args.pins) (spec.rows_of (drop (k + 1) c.args.lines.now))) pushed
    ∙ rows_more c.args.pins c.args.lines.now k c.line-item.result c.loop-line.rows _ c.in-Some.chars c.loop-line-test.true (sym c.line-item.is) (sym c.in_ok-chars.ensures ∙ c.in-Some.is) c.loop-line.invariant
