use Rattle.std.proofs.Common.{◌≡◌, ◌++◌}
use Rattle.ae_base.specs.Text.{cube_text}
use Rattle.vec_text.proofs.text.push_cube.Given as goal

abbrev pub invariant-loop-j : goal.invariant-loop-j
invariant-loop-j l = l.out.items ≡ l.fn.out.items ++ cube_text l.j l.cube
