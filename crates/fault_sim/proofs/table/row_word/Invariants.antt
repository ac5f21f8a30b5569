use Rattle.std.proofs.Common.{◌≡◌, ◌<◌, ℕ}
use Rattle.ae_base.specs.Mask.{has}
use Rattle.fault_sim.specs.declared.words.TheConstants.{LANES}
use Rattle.fault_sim.specs.Lanes.{each_below, allows, sees}
use Rattle.fault_sim.proofs.table.row_word.Given as goal

abbrev pub invariant-loop-k : goal.invariant-loop-k
invariant-loop-k l = (lane : ℕ) → lane < LANES → has l.word lane ≡ each_below l.k (λ k. allows l.row k (sees l.seen lane k))
