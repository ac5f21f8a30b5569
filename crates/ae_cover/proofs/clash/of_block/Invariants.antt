use Rattle.std.proofs.Common.{◌+◌, length}
use Rattle.ae_cover.specs.LeastClash.{IsLeastIn}
use Rattle.ae_cover.proofs.Least.{InRows}
use Rattle.ae_cover.proofs.clash.of_block.Given as goal

abbrev pub invariant-loop-off_row : goal.invariant-loop-off_row
invariant-loop-off_row l = IsLeastIn l.rows (InRows l.start (l.start + length l.fn.kept) l.limit l.off_row) l.best
