use Rattle.std.proofs.Common.{◌≡◌, ℕ, get_or, length, [], cond, ltb}
use Rattle.blif_order.specs.Kept as kept
use Rattle.blif_order.proofs.order.users_of.Given as goal

abbrev pub invariant-loop-i : goal.invariant-loop-i
invariant-loop-i l = record {
  len : length l.users.items ≡ length l.needs;
  users : (d j : ℕ) → kept.count j (get_or l.users.items d []) ≡ cond (ltb j l.i) (kept.count d (get_or l.needs j [])) 0;
}
