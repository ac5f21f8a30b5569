use Rattle.std.proofs.Common.{◌≡◌, ◌+◌, ◌-◌, ◌∙◌, suc, ap, refl, sym, drop, length, arith}
use Rattle.std.proofs.Math.Seq.{drop-length}
use Rattle.std.specs.List.{list_any}
use Rattle.factor.specs.Literals.{is_empty}
use Rattle.factor.specs.Seen.{with_cube, with_cubes}
use Rattle.factor.specs.Sums.Summands.{end}
use Rattle.factor.proofs.Meaning.{cubes_plain, cubes_more}
use Rattle.factor.proofs.sums.flat.Goals as goal

pub loop-d-init : goal.loop-d-init
loop-d-init c =
    let z : length c.args.cubes.now - 0 ≡ length c.args.cubes.now = omega arith in
    ap end c.some_empty.ensures ∙ rw (z, drop-length) refl

pub loop-d-preserved : goal.loop-d-preserved
loop-d-preserved c =
    let cubes = c.args.cubes.now in
    let s = end (list_any is_empty cubes) in
    let i = length cubes - 1 - c.loop-d.d in
    let e : length cubes - (c.loop-d.d + 1) ≡ i = omega arith in
    let f : suc i ≡ length cubes - c.loop-d.d = omega (arith, c.loop-d-test.true) in
    let more = cubes_more cubes s i c.index-cubes-cubes.result (omega (arith, c.loop-d-test.true)) c.index-cubes-cubes.is in
    c.in_ok-sum.ensures ∙ ap (with_cube c.index-cubes-cubes.result) c.loop-d.invariant
    ∙ ap (λ k. with_cube c.index-cubes-cubes.result (with_cubes (drop k cubes) s)) (sym f)
    ∙ more ∙ ap (λ k. with_cubes (drop k cubes) s) (sym e)

pub returns : goal.returns
returns c =
    let cubes = c.args.cubes.now in
    let z : length cubes - c.loop-d.d ≡ 0 = omega (arith, c.loop-d-test.false) in
    c.loop-d.invariant ∙ ap (λ k. with_cubes (drop k cubes) (end (list_any is_empty cubes))) z ∙ cubes_plain cubes (list_any is_empty cubes)
