use Rattle.std.proofs.Common.{◌≡◌, map}
use Rattle.ae_lex.specs.Lines.{cut_line}
use Rattle.ae_lex.proofs.slices.cut_lines.Given as goal

abbrev pub invariant-loop-line : goal.invariant-loop-line
invariant-loop-line l = l.list ≡ map (cut_line l.bytes) l.yielded
