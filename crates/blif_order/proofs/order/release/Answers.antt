use Rattle.std.proofs.Common.{get_or, arith}
use Rattle.blif_order.proofs.Counts.{count_before}
use Rattle.blif_order.proofs.order.release.Goals as goal

pub overflow_sub-left : goal.overflow_sub-left
overflow_sub-left c =
    let i = get_or c.args.list.now c.loop-i.i-index 0 in
    omega (arith, c.loop-i.invariant.missing i, c.requires.enough i, count_before c.args.list.now c.loop-i.i-index (omega arith))
