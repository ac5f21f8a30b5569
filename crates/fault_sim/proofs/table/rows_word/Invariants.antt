use Rattle.std.proofs.Common.{◌≡◌, ◌<◌, ℕ, length, take}
use Rattle.std.specs.List.{list_any}
use Rattle.ae_base.specs.Cube.{holds}
use Rattle.ae_base.specs.Mask.{has, where_below}
use Rattle.fault_sim.specs.declared.words.TheConstants.{LANES}
use Rattle.fault_sim.specs.Lanes.{sees}
use Rattle.fault_sim.proofs.table.rows_word.Given as goal

abbrev pub invariant-loop-row : goal.invariant-loop-row
invariant-loop-row l = (lane : ℕ) → lane < LANES → has l.word lane ≡ list_any (λ row. holds row (where_below (length l.gate.pins) (sees l.seen lane))) (take l.row-index l.gate.rows)
