use Rattle.std.proofs.Common.{◌≡◌, ℕ, get_or, length, []}
use Rattle.blif_order.specs.Kept as kept
use Rattle.blif_order.proofs.order.empty_lists.Given as goal

abbrev pub invariant-loop : goal.invariant-loop
invariant-loop l = record {
  len : length l.lists.items ≡ l.counter;
  empty : (d i : ℕ) → kept.count i (get_or l.lists.items d []) ≡ 0;
}
