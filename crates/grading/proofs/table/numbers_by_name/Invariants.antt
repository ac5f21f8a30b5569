use Rattle.grading.specs.Table.{AreListed}
use Rattle.grading.proofs.table.numbers_by_name.Given as goal

abbrev pub invariant-loop-i : goal.invariant-loop-i
invariant-loop-i l = AreListed l.lines l.i l.numbers
