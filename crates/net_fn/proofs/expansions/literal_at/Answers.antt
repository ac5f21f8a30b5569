use Rattle.std.proofs.Common.{◌≡◌, not, false, cond, ap, sym, ◌∙◌}
use Rattle.std.proofs.lemmas.Result.{IfOk-weaker}
use Rattle.ae_base.specs.Cube.{Signs}
use Rattle.ae_base.specs.Mask.{has}
use Rattle.ae_base.specs.Terms.{literal}
use Rattle.net_fn.proofs.Kept.{Shows-same}
use Rattle.net_fn.proofs.expansions.literal_at.Goals as goal

pub returns-else-has-clause-shows : goal.returns-else-has-clause-shows
returns-else-has-clause-shows g c =
    let j = c.args.j in
    let e : has c.args.polarity.plain j ≡ false = ap (λ (p : Signs). has p.plain j) (sym c.polarity.view_is) ∙ sym c.has.ensures ∙ c.if-has.false in
    IfOk-weaker c.not.result _ _
    (λ r step. Shows-same _ r (λ x. not (has x j)) (literal c.args.polarity j) (λ x. ap (λ b. cond b (has x j) (not (has x j))) (sym e)) (step (λ x. has x j) c.in_ok-value.ensures.shows))
    c.not.ensures.shows
