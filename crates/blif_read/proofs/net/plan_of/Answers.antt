use Rattle.std.proofs.Common.{◌≡◌, ℕ, length, map, ap, ◌∙◌, arith, length-append}
use Rattle.blif_order.specs.Order.{order_of}
use Rattle.blif_read.specs.Build.{gates_among}
use Rattle.blif_read.proofs.Whole.{signals_are, needs_fit, order_within}
use Rattle.blif_read.proofs.net.plan_of.Goals as goal

pub overflow_cast-len : goal.overflow_cast-len
overflow_cast-len c =
    let seen = c.args.seen.now in
    omega (arith, c.len.ensures, length-append seen.inputs seen.driven, (signals_are c.requires.lines seen c.requires.drafted.faultless).few)

pub order_of-requires : goal.order_of-requires
order_of-requires c =
    let seen = c.args.seen.now in
    let is : c.as_slice.result.now ≡ map (λ d. gates_among (length seen.inputs) d.pins) c.args.drafts.now = c.as_slice.ensures.value ∙ c.in_ok-needs.ensures ∙ ap (λ (n : ℕ). map (λ d. gates_among n d.pins) c.args.drafts.now) c.len.ensures in
    let fit = needs_fit c.requires.lines seen c.args.drafts.now c.as_slice.result.now c.requires.drafted is in
    record { short = fit.0; lists_short = fit.1; within = fit.2 }

pub ranks_of-requires : goal.ranks_of-requires
ranks_of-requires c =
    let seen = c.args.seen.now in
    let drafts = c.args.drafts.now in
    let is : c.as_slice.result.now ≡ map (λ d. gates_among (length seen.inputs) d.pins) drafts = c.as_slice.ensures.value ∙ c.in_ok-needs.ensures ∙ ap (λ (n : ℕ). map (λ d. gates_among n d.pins) drafts) c.len.ensures in
    let order : c.as_slice-2.result.now ≡ order_of (map (λ d. gates_among (length seen.inputs) d.pins) drafts) = c.as_slice-2.ensures.value ∙ c.in_ok-order.ensures ∙ ap order_of is in
    let fit = order_within c.requires.lines seen drafts c.as_slice-2.result.now c.requires.drafted order in
    record { short = fit.0; within = fit.1 }
