use Rattle.std.proofs.Common.{◌≡◌, not, true, false, Bool, cond, refl, ap, sym, ◌∙◌}
use Rattle.std.proofs.lemmas.Result.{IfOk-weaker}
use Rattle.ae_base.specs.Mask.{has}
use Rattle.ae_base.specs.Cube.{Signs}
use Rattle.ae_base.specs.Terms.{literal}
use Rattle.net_fn.proofs.Kept.{Shows-same}
use Rattle.net_fn.proofs.products.input.Goals as goal

back : (v : Bool) → not (not v) ≡ v
back true = refl
back false = refl

pub returns-else-has-clause-shows : goal.returns-else-has-clause-shows
returns-else-has-clause-shows g c =
    let p = (g.S.FnStore.functions c.args.store.now).polarity in
    let e : has p.plain c.args.j ≡ false = ap (λ (q : Signs). has q.plain c.args.j) (sym (c.polarity.view_is ∙ c.polarity-polarity.ensures.polarity)) ∙ sym c.has.ensures ∙ c.if-has.false in
    IfOk-weaker c.not.result _ _
    (λ r step. Shows-same _ r (λ x. not (literal p c.args.j x)) (λ x. has x c.args.j)
    (λ x. ap (λ b. not (cond b (has x c.args.j) (not (has x c.args.j)))) e ∙ back (has x c.args.j))
    (step (literal p c.args.j) c.in_ok-literal.ensures.shows))
    c.not.ensures.shows
