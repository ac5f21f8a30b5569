use Rattle.std.proofs.Common.{arith}
use Rattle.synth_core.proofs.Lines.{lines_taken}
use Rattle.synth_core.proofs.vector_files.esop_lines.Goals as goal

pub loop-cubes-preserved : goal.loop-cubes-preserved
loop-cubes-preserved c = record {
  count = omega (arith, c.loop-cubes.invariant.count);
  lines = lines_taken c.lists-cubes-items.result.now c.loop-cubes.cubes-index c.loop-cubes.output c.cubes-item.result c.as_slice.result.now c.loop-cubes.lines c.push_cubes.new.lines
      c.loop-cubes-test.true c.cubes-item.is c.as_slice.ensures c.loop-cubes.invariant.count c.loop-cubes.invariant.lines c.in_ok-push_cubes.ensures;
}
