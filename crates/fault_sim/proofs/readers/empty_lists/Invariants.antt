use Rattle.std.proofs.Common.{◌≡◌, ℕ, length, []}
use Rattle.fault_sim.specs.Spread.{row}
use Rattle.fault_sim.proofs.readers.empty_lists.Given as goal

abbrev pub invariant-loop : goal.invariant-loop
invariant-loop l = record {
  empty : (s : ℕ) → row l.lists.items s ≡ [];
  len : length l.lists.items ≡ l.counter;
}
