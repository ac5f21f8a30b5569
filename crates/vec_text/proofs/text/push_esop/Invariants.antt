use Rattle.std.proofs.Common.{◌≡◌, ◌++◌, take, map}
use Rattle.ae_base.specs.Text.{text_of}
use Rattle.vec_text.specs.VectorFile.{esop_line}
use Rattle.vec_text.proofs.text.push_esop.Given as goal

abbrev pub invariant-loop-line : goal.invariant-loop-line
invariant-loop-line l = l.out.items ≡ l.fn.out.items ++ text_of (map (esop_line l.n) (take l.line-index l.lines))
