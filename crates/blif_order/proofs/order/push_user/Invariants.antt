use Rattle.std.proofs.Common.{◌≡◌, ℕ, ◌+◌, cond, eqb, get_or, take, [], length}
use Rattle.blif_order.specs.Kept as kept
use Rattle.blif_order.proofs.order.push_user.Given as goal

abbrev pub invariant-loop-d : goal.invariant-loop-d
invariant-loop-d l = (length l.users.items ≡ length l.fn.users.items) × ((d i : ℕ) → kept.count i (get_or l.users.items d []) ≡ kept.count i (get_or l.fn.users.items d []) + cond (eqb l.user i) (kept.count d (take l.d-index l.list)) 0)
