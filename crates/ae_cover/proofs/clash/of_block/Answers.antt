use Rattle.std.proofs.Common.{◌≡◌, ℕ, ◌+◌, length, Option, sym, subst, arith}
use Rattle.ae_cover.specs.declared.parts.Clash.{Clash}
use Rattle.ae_cover.specs.LeastClash.{IsLeastIn, InRow}
use Rattle.ae_cover.proofs.Least.{InRows, row_more, all_rows}
use Rattle.ae_cover.proofs.clash.of_block.Goals as goal

pub loop-off_row-preserved : goal.loop-off_row-preserved
loop-off_row-preserved c =
    let rows = c.args.rows.now in
    let stop = c.args.start + length c.args.kept.now in
    let kept : length c.keep_ones.new.kept ≡ length c.args.kept.now = omega arith in
    let Found : ℕ → Type 0 = λ n. IsLeastIn rows (InRow c.args.start (c.args.start + n) c.args.limit c.loop-off_row.off_row) c.of_row.result in
    let Best : Option Clash → Type 0 = IsLeastIn rows (InRows c.args.start stop c.args.limit (c.loop-off_row.off_row + 1)) in
    subst Best (sym c.lesser-best.ensures) (row_more rows c.args.start stop c.args.limit c.loop-off_row.off_row c.loop-off_row.best c.of_row.result (subst Found kept c.of_row.ensures) c.loop-off_row.invariant)

pub returns : goal.returns
returns c =
    let rows = c.args.rows.now in
    let stop = c.args.start + length c.args.kept.now in
    let Best : ℕ → Type 0 = λ n. IsLeastIn rows (InRows c.args.start stop c.args.limit n) c.loop-off_row.best in
    let all : c.loop-off_row.off_row ≡ length rows = omega arith in
    all_rows rows c.args.start stop c.args.limit c.loop-off_row.best (subst Best all c.loop-off_row.invariant)
