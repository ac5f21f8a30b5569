use Rattle.std.proofs.Common.{◌∙◌, sym, ap, ap₂}
use Rattle.std.specs.Prelude.{[], ◌∷◌}
use Rattle.ae_base.specs.Mask.{least, len}
use Rattle.esop.specs.Links.{apart}
use Rattle.esop.proofs.Thirds.{two_found, both_apart, links_are, no_links, none_low, none_high}
use Rattle.esop.proofs.links.links_of.Goals as goal

pub returns-then-len-ne2 : goal.returns-then-len-ne2
returns-then-len-ne2 c = no_links c.args.first c.args.second (λ e. c.if-len-ne2.true (c.len.ensures ∙ ap len c.apart-apart.ensures ∙ e))

pub returns-in_err-low : goal.returns-in_err-low
returns-in_err-low c = absurd (none_low c.apart-apart.result (sym c.len.ensures ∙ c.if-len-ne2.false) (sym c.least.ensures.least ∙ c.in_err-low.was))

pub returns-in_err-high : goal.returns-in_err-high
returns-in_err-high c =
    absurd (none_high c.apart-apart.result c.in_ok-low.low (sym c.len.ensures ∙ c.if-len-ne2.false) (sym c.least.ensures.least ∙ c.in_ok-low.was)
    (ap least (sym c.without.ensures) ∙ sym c.least-2.ensures.least ∙ c.in_err-high.was))

pub link_at-requires-clause-apart : goal.link_at-requires-clause-apart
link_at-requires-clause-apart c =
    let two = two_found (apart c.args.first c.args.second) _ _ _ _ _ _ _ c.apart-apart.ensures c.len.ensures c.if-len-ne2.false c.least.ensures.least c.in_ok-low.was c.without.ensures c.least-2.ensures.least c.in_ok-high.was in
    let there = both_apart c.args.first c.args.second _ _ two in
    (there.0, there.1)

pub link_at-requires-2-clause-apart : goal.link_at-requires-2-clause-apart
link_at-requires-2-clause-apart c =
    let two = two_found (apart c.args.first c.args.second) _ _ _ _ _ _ _ c.apart-apart.ensures c.len.ensures c.if-len-ne2.false c.least.ensures.least c.in_ok-low.was c.without.ensures c.least-2.ensures.least c.in_ok-high.was in
    let there = both_apart c.args.first c.args.second _ _ two in
    (there.2, there.3)

pub returns : goal.returns
returns c =
    let two = two_found (apart c.args.first c.args.second) _ _ _ _ _ _ _ c.apart-apart.ensures c.len.ensures c.if-len-ne2.false c.least.ensures.least c.in_ok-low.was c.without.ensures c.least-2.ensures.least c.in_ok-high.was in
    links_are c.args.first c.args.second _ _ two ∙ ap₂ (λ l m. l ∷ m ∷ []) (sym c.link_at.ensures) (sym c.link_at-2.ensures)
