use Rattle.std.proofs.Common.{◌≡◌, ◌++◌, take, map}
use Rattle.ae_base.specs.Text.{text_of}
use Rattle.vec_text.specs.VectorFile.{unchanged_line}
use Rattle.vec_text.proofs.text.push_unchanged.Given as goal

abbrev pub invariant-loop-idle : goal.invariant-loop-idle
invariant-loop-idle l = l.out.items ≡ l.fn.out.items ++ text_of (map unchanged_line (take l.idle-index l.list))
