use Rattle.std.proofs.Common.{◌≡◌, ◌+◌, ◌-◌, ◌++◌, ◌≤◌, drop, take, length}
use Rattle.factor.specs.Cells.{joins, last_of}
use Rattle.factor.proofs.parts.push_chain.Given as goal

abbrev pub invariant-loop-i : goal.invariant-loop-i
invariant-loop-i l = record {
  from : 1 ≤ l.i;
  cells : l.cells.items ++ joins (l.first + length l.cells.items) l.line (take l.i l.factors) (drop l.i l.factors)
      ≡ l.initial.cells.items ++ joins (l.first + length l.initial.cells.items) l.initial.line (take 1 l.factors) (drop 1 l.factors);
  count : length l.cells.items ≡ length l.initial.cells.items + (l.i - 1);
  line : l.line ≡ last_of (l.first + length l.initial.cells.items) l.initial.line (l.i - 1);
}
