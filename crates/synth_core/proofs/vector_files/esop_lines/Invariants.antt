use Rattle.std.proofs.Common.{◌≡◌, take}
use Rattle.synth_core.specs.Made.{lines_from}
use Rattle.synth_core.proofs.vector_files.esop_lines.Given as goal

abbrev pub invariant-loop-cubes : goal.invariant-loop-cubes
invariant-loop-cubes l = record {
  count : l.output ≡ l.cubes-index;
  lines : l.lines ≡ lines_from 0 (take l.cubes-index l.cubes-items);
}
