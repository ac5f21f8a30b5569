use Rattle.std.proofs.Common.{◌≡◌, ◌++◌}
use Rattle.ae_base.specs.Text.{cube_text}
use Rattle.blif_write.proofs.text.push_literals.Given as goal

abbrev pub invariant-loop-j : goal.invariant-loop-j
invariant-loop-j l = l.out.items ≡ l.fn.out.items ++ cube_text l.j l.row
