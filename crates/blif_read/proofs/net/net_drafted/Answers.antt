use Rattle.std.proofs.Common.{◌≡◌, ℕ, Some, None, Ok, Err, sym, ap, ◌∙◌}
use Rattle.std.specs.Prelude.{position, is_none}
use Rattle.ae_net.specs.Network.{Network}
use Rattle.blif_read.specs.declared.fault.BlifFault.TheVariants as fault
use Rattle.blif_read.proofs.Whole.{buildable_are, ports_are, order_within, cycle_said, drawn_valid, net_said}
use Rattle.blif_read.proofs.net.net_drafted.Goals as goal

pub plan_of-requires : goal.plan_of-requires
plan_of-requires c = record { lines = c.args.lines.now; drafted = c.requires.drafted }

pub line_of-requires-clause-lines : goal.line_of-requires-clause-lines
line_of-requires-clause-lines c =
    let plan = c.in_ok-plan.plan in
    (buildable_are c.args.lines.now c.args.seen.now c.args.drafts.now plan.order.items plan.ranks.items c.requires.drafted c.in_ok-plan.ensures).lines

pub returns-in-Some : goal.returns-in-Some
returns-in-Some c =
    let plan = c.in_ok-plan.plan in
    let at : position (λ o. is_none o) plan.ranks.items ≡ Some c.in-Some.place = ap (position (λ o. is_none o)) (sym c.as_slice.ensures.value) ∙ sym c.first_unplaced.ensures ∙ c.in-Some.is in
    (cycle_said c.args.lines.now c.args.seen.now c.args.drafts.now plan.order.items plan.ranks.items c.args.name.now c.in-Some.place c.requires.drafted c.in_ok-plan.ensures at).1
    ∙ ap (λ (n : ℕ). Err (n, fault.Cycle)) (sym c.line_of.ensures)

pub net_placed-requires-clause-within : goal.net_placed-requires-clause-within
net_placed-requires-clause-within c =
    let plan = c.in_ok-plan.plan in
    (order_within c.args.lines.now c.args.seen.now c.args.drafts.now plan.order.items c.requires.drafted c.in_ok-plan.ensures.order_is).1

pub net_placed-requires-clause-buildable : goal.net_placed-requires-clause-buildable
net_placed-requires-clause-buildable c =
    let plan = c.in_ok-plan.plan in
    buildable_are c.args.lines.now c.args.seen.now c.args.drafts.now plan.order.items plan.ranks.items c.requires.drafted c.in_ok-plan.ensures

pub net_placed-requires-clause-ports : goal.net_placed-requires-clause-ports
net_placed-requires-clause-ports c =
    let plan = c.in_ok-plan.plan in
    ports_are c.args.lines.now c.args.seen.now c.args.drafts.now plan.order.items plan.ranks.items c.requires.drafted c.in_ok-plan.ensures

pub net_placed-requires-clause-valid : goal.net_placed-requires-clause-valid
net_placed-requires-clause-valid c =
    let plan = c.in_ok-plan.plan in
    let at : position (λ o. is_none o) plan.ranks.items ≡ None = ap (position (λ o. is_none o)) (sym c.as_slice.ensures.value) ∙ sym c.first_unplaced.ensures ∙ c.in-None.is in
    drawn_valid c.args.lines.now c.args.seen.now c.args.drafts.now plan.order.items plan.ranks.items c.args.name.now c.requires.drafted c.in_ok-plan.ensures at c.requires.named

pub returns : goal.returns
returns c =
    let plan = c.in_ok-plan.plan in
    let at : position (λ o. is_none o) plan.ranks.items ≡ None = ap (position (λ o. is_none o)) (sym c.as_slice.ensures.value) ∙ sym c.first_unplaced.ensures ∙ c.in-None.is in
    net_said c.args.lines.now c.args.seen.now c.args.drafts.now plan.order.items plan.ranks.items c.args.name.now c.requires.drafted c.in_ok-plan.ensures at
    ∙ ap (λ (n : Network). Ok n) (sym c.in_ok-net_placed-in-None.ensures)
