use Rattle.std.proofs.Common.{inl, inr, refl, sym, ap, ◌∙◌}
use Rattle.ae_base.specs.Mask.{least}
use Rattle.fn_store.proofs.Lowest.{lower_first, lower_second, none_apart}
use Rattle.fn_store.proofs.point.lower_one.Goals as goal

pub returns-in-Some : goal.returns-in-Some
returns-in-Some c =
    let lower = lower_second c.args.s c.args.t c.in-Some.j (sym (c.in-Some.ensures.least ∙ ap least c.xor.ensures)) (sym c.has.ensures ∙ c.if-has.true) in
    record { one = inr refl; first = inr lower; second = inl refl }

pub returns-in_default : goal.returns-in_default
returns-in_default c =
    let lower = lower_first c.args.s c.args.t c.in-Some.j (sym (c.in-Some.ensures.least ∙ ap least c.xor.ensures)) (sym c.has.ensures ∙ c.if-has.false) in
    record { one = inl refl; first = inl refl; second = inr lower }

pub returns-in_default-2 : goal.returns-in_default-2
returns-in_default-2 c = record { one = inl refl; first = inl refl; second = inl (none_apart c.args.s c.args.t (sym (c.in_default.ensures.least ∙ ap least c.xor.ensures))) }
