use Rattle.std.proofs.Common.{◌&&◌, not, ap, sym, ◌∙◌}
use Rattle.std.proofs.lemmas.Result.{IfOk-weaker}
use Rattle.ae_base.specs.Mask.{has}
use Rattle.ae_base.specs.Cube.{Product, IsProduct}
use Rattle.net_fn.proofs.Kept.{Shows-kept, Shows-same}
use Rattle.net_fn.specs.Literals.{agrees}
use Rattle.net_fn.proofs.Listed.{agrees-pos, agrees-neg}
use Rattle.net_fn.proofs.products.times.Goals as goal

pub returns-then-has-clause-shows : goal.returns-then-has-clause-shows
returns-then-has-clause-shows g c =
    let is : IsProduct c.args.product = rw (sym c.product.view_is) c.product.invariant in
    IfOk-weaker c.and.result _ _
    (λ t step f h a b. Shows-same _ t (λ x. f x && h x) (λ x. f x && agrees c.args.product c.args.k (h x))
    (λ x. ap (λ v. f x && v) (agrees-pos c.args.product c.args.k (h x) is (ap (λ (d : Product). has d.pos c.args.k) (sym c.product.view_is) ∙ sym c.has.ensures ∙ c.if-has.true)))
    (step f h a b))
    c.and.ensures.shows

pub returns-in_ok-complement-clause-shows : goal.returns-in_ok-complement-clause-shows
returns-in_ok-complement-clause-shows g c =
    IfOk-weaker c.and-then-has-2.result _ _
    (λ t step f h a b. Shows-same _ t (λ x. f x && not (h x)) (λ x. f x && agrees c.args.product c.args.k (h x))
    (λ x. ap (λ v. f x && v) (agrees-neg c.args.product c.args.k (h x)
    (ap (λ (d : Product). has d.pos c.args.k) (sym c.product.view_is) ∙ sym c.has.ensures ∙ c.if-has.false)
    (ap (λ (d : Product). has d.neg c.args.k) (sym c.product.view_is) ∙ sym c.has-else-has.ensures ∙ c.if-has-2.true)))
    (step f (λ x. not (h x)) (Shows-kept _ _ c.not.ensures.keeps c.args.all f a) (c.in_ok-complement.ensures.shows h b)))
    c.and-then-has-2.ensures.shows
