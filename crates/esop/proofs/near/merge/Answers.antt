use Rattle.std.proofs.Common.{◌≡◌, ◌∙◌, length, sym, ap, arith}
use Rattle.std.specs.Prelude.{None, Some}
use Rattle.ae_base.specs.Mask.{least}
use Rattle.ae_base.proofs.Members.{least-is, members-none}
use Rattle.esop.specs.Links.{apart, with_third}
use Rattle.esop.proofs.Thirds.{first_apart, members-distance}
use Rattle.esop.proofs.near.merge.Goals as goal

pub with_third-requires-clause-apart : goal.with_third-requires-clause-apart
with_third-requires-clause-apart c =
    let found : least (apart c.args.first c.args.second) ≡ Some c.in-Some.j = ap least (sym c.apart.ensures) ∙ sym c.least.ensures.least ∙ c.in-Some.is in
    (least-is _ _ found).0

pub returns : goal.returns
returns c =
    let found : least (apart c.args.first c.args.second) ≡ Some c.in-Some.j = ap least (sym c.apart.ensures) ∙ sym c.least.ensures.least ∙ c.in-Some.is in
    c.with_third.ensures ∙ ap (with_third c.args.first c.args.second) (sym (first_apart _ _ found))

pub unreachable-requires : goal.unreachable-requires
unreachable-requires c =
    let none : least (apart c.args.first c.args.second) ≡ None = ap least (sym c.apart.ensures) ∙ sym c.least.ensures.least ∙ c.in-None.is in
    omega (arith, ap length (members-none _ none), members-distance c.args.first c.args.second 1 c.requires)
