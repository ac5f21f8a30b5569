use Rattle.std.proofs.Common.{◌≡◌, ℕ, ◌+◌, ◌<◌, get_or}
use Rattle.ae_cover.specs.LeastClash.{ones_at}
use Rattle.ae_cover.proofs.clash.keep_ones.Given as goal

abbrev pub invariant-loop-k : goal.invariant-loop-k
invariant-loop-k l = (k : ℕ) → k < l.k → get_or l.kept k 0 ≡ ones_at l.rows l.limit (l.start + k)
