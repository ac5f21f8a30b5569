use Rattle.std.proofs.Common.{◌+◌}
use Rattle.ae_cover.specs.LeastClash.{IsLeastIn, InRow}
use Rattle.ae_cover.proofs.clash.of_row.Given as goal

abbrev pub invariant-loop-k : goal.invariant-loop-k
invariant-loop-k l = IsLeastIn l.rows (InRow l.start (l.start + l.k) l.limit l.off_row) l.best
