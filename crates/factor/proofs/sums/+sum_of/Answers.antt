use Rattle.std.proofs.Common.{◌≡◌, ◌<◌, ◌∙◌, arith, rules, sym, subst}
use Rattle.std.specs.Prelude.{All}
use Rattle.std.proofs.lemmas.Result.{IfOk-weaker}
use Rattle.ae_base.specs.Cube.{IsOver}
use Rattle.factor.specs.Literals.{holding, others}
use Rattle.factor.specs.Seen.{seen}
use Rattle.factor.specs.Sums.{IsSum}
use Rattle.factor.specs.Sums.IsSum.{flat, taken}
use Rattle.factor.proofs.Taken.{counted_stands}
use Rattle.factor.proofs.Meaning.{standing, fewer_held, fewer_others, over_held, over_others, free_first}
use Rattle.factor.proofs.sums.+sum_of.Goals as goal

pub sum_of-requires : goal.sum_of-requires
sum_of-requires t c =
    let n = c.args.n in
    let cubes = c.args.cubes.now in
    let e : c.as_slice.result.now ≡ holding c.in-Some.t cubes = c.as_slice.ensures.value ∙ c.in_ok-held-in-Some.ensures in
    let fewer : standing n c.as_slice.result.now < standing n cubes = rw e (fewer_held n c.in-Some.t cubes c.in-Some.ensures.below (counted_stands c.in-Some.t cubes (omega (arith, c.in-Some.ensures.picked.twice)))) in
    let over : All (IsOver n) c.as_slice.result.now = rw e (over_held n c.in-Some.t cubes c.requires.over) in
    search rules

pub sum_of-requires-in-Some : goal.sum_of-requires-in-Some
sum_of-requires-in-Some t c =
    let n = c.args.n in
    let cubes = c.args.cubes.now in
    let e : c.as_slice-in-Some.result.now ≡ others c.in-Some.t cubes = c.as_slice-in-Some.ensures.value ∙ c.in_ok-others-in-Some.ensures in
    let fewer : standing n c.as_slice-in-Some.result.now < standing n cubes = rw e (fewer_others n c.in-Some.t cubes c.in-Some.ensures.below (counted_stands c.in-Some.t cubes (omega (arith, c.in-Some.ensures.picked.twice)))) in
    let over : All (IsOver n) c.as_slice-in-Some.result.now = rw e (over_others n c.in-Some.t cubes c.requires.over) in
    search rules

pub joined-requires-clause-free : goal.joined-requires-clause-free
joined-requires-clause-free t c =
    let e : c.as_slice.result.now ≡ holding c.in-Some.t c.args.cubes.now = c.as_slice.ensures.value ∙ c.in_ok-held-in-Some.ensures in
    free_first c.args.n c.in-Some.t c.args.cubes.now (seen c.in_ok-inner-in-Some.inner) c.requires.over (subst (λ cs. IsSum cs (seen c.in_ok-inner-in-Some.inner)) e c.in_ok-inner-in-Some.ensures)

pub returns-in-None : goal.returns-in-None
returns-in-None t c = IfOk-weaker c.flat.result _ _ (λ sum e. subst (IsSum c.args.cubes.now) (sym e) (flat c.args.cubes.now c.in-None.ensures.picked)) c.flat.ensures

pub returns-in_ok-rest-in-Some : goal.returns-in_ok-rest-in-Some
returns-in_ok-rest-in-Some t c =
    let cubes = c.args.cubes.now in
    let u = c.in-Some.t in
    let held : c.as_slice.result.now ≡ holding u cubes = c.as_slice.ensures.value ∙ c.in_ok-held-in-Some.ensures in
    let rest : c.as_slice-in-Some.result.now ≡ others u cubes = c.as_slice-in-Some.ensures.value ∙ c.in_ok-others-in-Some.ensures in
    IfOk-weaker c.joined.result _ _
    (λ sum e. subst (IsSum cubes) (sym e) (taken cubes u _ _ c.in-Some.ensures.picked (subst (λ cs. IsSum cs (seen c.in_ok-inner-in-Some.inner)) held c.in_ok-inner-in-Some.ensures) (subst (λ cs. IsSum cs (seen c.in_ok-rest-in-Some.rest)) rest c.in_ok-rest-in-Some.ensures)))
    c.joined.ensures
