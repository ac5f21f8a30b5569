use Rattle.std.proofs.Common.{◌≡◌, ◌++◌, map, drop}
use Rattle.blif_read.specs.Build as spec
use Rattle.blif_read.proofs.build.rows_at.Given as goal

abbrev pub invariant-loop-line : goal.invariant-loop-line
invariant-loop-line l = l.rows ++ map (spec.row_cube l.pins) (spec.rows_of (drop l.line-index l.lines)) ≡ map (spec.row_cube l.pins) (spec.rows_of l.lines)
