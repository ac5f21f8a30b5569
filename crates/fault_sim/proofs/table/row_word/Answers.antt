use Rattle.std.proofs.Common.{◌≡◌, ap, ◌∙◌, arith}
use Rattle.fault_sim.specs.Lanes.{each_below, allows, sees}
use Rattle.fault_sim.proofs.RowLanes.{row-holds}
use Rattle.fault_sim.proofs.table.row_word.Goals as goal

pub returns : goal.returns
returns c l lt =
    let all : c.loop-k.k ≡ c.args.pins = omega (arith, c.loop-k-test.false, c.loop-k.auto.k-end) in
    let pin = sees c.args.seen.now l in
    c.loop-k.invariant l lt
    ∙ ap (λ k. each_below k (λ k. allows c.args.row.now k (pin k))) all
    ∙ row-holds c.args.pins c.args.row.now pin (record { is_product = c.requires.row.is_product; pos = c.requires.row.pos; neg = c.requires.row.neg })
