use Rattle.std.proofs.Common.{◌≡◌, ℕ, length, get_or, None}
use Rattle.blif_read.proofs.order.no_ranks.Given as goal

abbrev pub invariant-loop : goal.invariant-loop
invariant-loop l = (length l.ranks.items ≡ l.counter) × ((g : ℕ) → get_or l.ranks.items g None ≡ None)
