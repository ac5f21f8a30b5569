use Rattle.std.proofs.Common.{◌&&◌}
use Rattle.std.proofs.lemmas.Result.{IfOk-weaker}
use Rattle.ae_base.specs.Terms.{literal}
use Rattle.net_fn.proofs.Kept.{Shows-kept}
use Rattle.net_fn.proofs.expansions.add_times.Goals as goal

pub returns-clause-shows : goal.returns-clause-shows
returns-clause-shows g c =
    let times = literal c.args.polarity c.args.j in
    IfOk-weaker c.xor.result _ _
    (λ r step f h low high.
    step f (λ x. times x && h x) (Shows-kept _ _ c.and.ensures.keeps c.args.low f (Shows-kept _ _ c.literal_at.ensures.keeps c.args.low f low))
    (c.in_ok-there.ensures.shows times h c.in_ok-literal.ensures.shows (Shows-kept _ _ c.literal_at.ensures.keeps c.args.high h high)))
    c.xor.ensures.shows
