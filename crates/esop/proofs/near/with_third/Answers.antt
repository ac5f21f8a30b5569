use Rattle.std.proofs.Common.{◌≡◌, ◌∙◌, true, ap₂}
use Rattle.ae_base.specs.Cube.{Product}
use Rattle.ae_base.specs.Mask.{has}
use Rattle.esop.specs.Links.{apart}
use Rattle.esop.proofs.Thirds.{third_product}
use Rattle.esop.proofs.near.with_third.Goals as goal

pub invariant_of-result : goal.invariant_of-result
invariant_of-result c =
    let first : Product = record { pos = c.first.inside.pos; neg = c.first.inside.neg } in
    let second : Product = record { pos = c.second.inside.pos; neg = c.second.inside.neg } in
    let differ : has (apart first second) c.args.j ≡ true = ap₂ (λ a b. has (apart a b) c.args.j) c.first.view_is c.second.view_is ∙ c.requires.apart in
    rw (c.third_part.ensures, c.third_part-2.ensures) (third_product first second c.args.j c.first.invariant differ)
