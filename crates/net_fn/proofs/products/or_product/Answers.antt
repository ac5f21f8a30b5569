use Rattle.std.proofs.Common.{not, length, ◌&&◌, ◌||◌}
use Rattle.std.proofs.lemmas.Result.{IfOk-weaker}
use Rattle.ae_base.specs.Mask.{differ}
use Rattle.ae_base.specs.Cube.{holds}
use Rattle.net_fn.proofs.Kept.{Shows-kept, Shows-same}
use Rattle.net_fn.proofs.References.{ShowEach-kept}
use Rattle.net_fn.proofs.Truth.{or-rest}
use Rattle.net_fn.specs.Refs.{ones_at}
use Rattle.net_fn.proofs.products.or_product.Goals as goal

pub returns-clause-shows : goal.returns-clause-shows
returns-clause-shows g c =
    let m = length c.args.refs.now in
    IfOk-weaker c.xor.result _ _
    (λ r step f fs some each.
    Shows-same _ r (λ x. differ (f x) (not (f x) && holds c.args.product (ones_at m fs x))) (λ x. f x || holds c.args.product (ones_at m fs x)) (λ x. or-rest (f x) (holds c.args.product (ones_at m fs x)))
    (step f (λ x. not (f x) && holds c.args.product (ones_at m fs x))
    (Shows-kept _ _ c.times_product.ensures.keeps c.args.some f (Shows-kept _ _ c.not.ensures.keeps c.args.some f some))
    (c.in_ok-also.ensures.shows (λ x. not (f x)) fs (c.in_ok-rest.ensures.shows f some) (ShowEach-kept _ _ c.args.refs.now fs c.not.ensures.keeps each))))
    c.xor.ensures.shows
