use Rattle.std.proofs.Common.{◌≡◌, ℕ, get_or, take, None}
use Rattle.blif_read.specs.Build.{rank_in}
use Rattle.blif_read.proofs.order.rank_all.Given as goal

abbrev pub invariant-loop-i : goal.invariant-loop-i
invariant-loop-i l = (g : ℕ) → get_or l.ranks g None ≡ rank_in (take l.i l.order) g
