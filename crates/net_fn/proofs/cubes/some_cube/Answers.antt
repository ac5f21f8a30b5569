use Rattle.std.proofs.Common.{◌≡◌, length, ◌∙◌, ap}
use Rattle.std.proofs.lemmas.Result.{IfOk-weaker}
use Rattle.ae_base.specs.Mask.{has}
use Rattle.fn_store.specs.Cubes.{some_holds}
use Rattle.net_fn.specs.Refs.{ones_at}
use Rattle.net_fn.proofs.Cofactors.{some-inputs}
use Rattle.net_fn.proofs.Kept.{Shows-same}
use Rattle.net_fn.proofs.cubes.some_cube.Goals as goal

pub returns-clause-shows : goal.returns-clause-shows
returns-clause-shows g c =
    let n = (g.S.FnStore.functions c.args.store.now).polarity.n in
    let count : length c.deref.result.now ≡ n = ap length c.deref.ensures.value ∙ c.in_ok-inputs.ensures.count in
    IfOk-weaker c.some_product.result _ _
    (λ r step. Shows-same _ r (λ x. some_holds c.args.cubes.now (ones_at (length c.deref.result.now) (λ j x. has x j) x)) (some_holds c.args.cubes.now)
    (λ x. ap (λ m. some_holds c.args.cubes.now (ones_at m (λ j x. has x j) x)) count ∙ some-inputs n c.args.cubes.now x c.requires)
    (step (λ j x. has x j) (rw c.deref.ensures.value c.in_ok-inputs.ensures.shows)))
    c.some_product.ensures.shows
