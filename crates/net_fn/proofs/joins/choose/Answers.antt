use Rattle.std.proofs.Common.{cond, ◌&&◌}
use Rattle.std.proofs.lemmas.Result.{IfOk-weaker}
use Rattle.ae_base.specs.Mask.{differ}
use Rattle.net_fn.proofs.Kept.{Shows-kept, Shows-same}
use Rattle.net_fn.proofs.Truth.{choose-value}
use Rattle.net_fn.proofs.joins.choose.Goals as goal

pub returns-clause-shows : goal.returns-clause-shows
returns-clause-shows g c =
    IfOk-weaker c.xor-2.result _ _
    (λ r step f a b by low high.
    Shows-same _ r (λ x. differ (a x) (f x && differ (a x) (b x))) (λ x. cond (f x) (b x) (a x)) (λ x. choose-value (f x) (a x) (b x))
    (step a (λ x. f x && differ (a x) (b x))
    (Shows-kept _ _ c.and.ensures.keeps c.args.low a (Shows-kept _ _ c.xor.ensures.keeps c.args.low a low))
    (c.in_ok-there.ensures.shows f (λ x. differ (a x) (b x)) (Shows-kept _ _ c.xor.ensures.keeps c.args.by f by) (c.in_ok-apart.ensures.shows a b low high))))
    c.xor-2.ensures.shows
