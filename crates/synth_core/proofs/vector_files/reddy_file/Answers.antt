use Rattle.std.proofs.Common.{◌≡◌, ◌∙◌, ◌+◌, subst, arith}
use Rattle.std.specs.Prelude.{All}
use Rattle.ae_base.specs.Terms.{IsPoint}
use Rattle.cascade.specs.Shows.{CanBuild}
use Rattle.input_tests.specs.Whole.{cascade_tests}
use Rattle.synth_core.proofs.Filed.{same_file}
use Rattle.synth_core.proofs.vector_files.reddy_file.Goals as goal

-- a source has fewer inputs than a set has numbers
pub cascade_vectors-requires : goal.cascade_vectors-requires
cascade_vectors-requires c = record { control = omega (arith, c.outputs-outputs.ensures.valid.few_inputs, c.requires.fits.inputs) }

pub vector_file-requires : goal.vector_file-requires
vector_file-requires c =
    let names = c.args.names.now in
    let e = c.args.e.now in
    let points_are : c.deref.result.now ≡ cascade_tests e = c.deref.ensures.value ∙ c.in_ok-points.ensures.vectors in
    let are_points = subst (All (IsPoint (e.polarity.n + 1))) c.in_ok-points.ensures.vectors c.in_ok-points.ensures.points in
    let can : CanBuild names e = record { named = c.outputs-outputs.ensures.valid; terms = c.polarity.ensures.valid; fits = c.requires.fits; cheap = c.requires.cheap } in
    rw (same_file _ _ _ _ _ _ _ _ c.requires.net c.outputs-outputs.ensures.outputs c.polarity.ensures.polarity points_are)
    (c.synthesis_law.ensures.valid names e (record { built = can; points = are_points }))
