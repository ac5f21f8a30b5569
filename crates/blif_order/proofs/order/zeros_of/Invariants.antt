use Rattle.std.proofs.Common.{◌≡◌, ℕ, ◌&&◌, ltb, eqb, get_or}
use Rattle.blif_order.specs.Kept as kept
use Rattle.blif_order.proofs.order.zeros_of.Given as goal

abbrev pub invariant-loop-i : goal.invariant-loop-i
invariant-loop-i l = (j : ℕ) → kept.has l.ready j ≡ (ltb j l.i && eqb (get_or l.lengths j 0) 0)
