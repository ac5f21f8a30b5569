use Rattle.std.proofs.Common.{◌≡◌, ◌++◌, take, map}
use Rattle.ae_base.specs.Text.{text_of}
use Rattle.vec_text.specs.VectorFile.{vector_line}
use Rattle.vec_text.proofs.text.push_vectors.Given as goal

abbrev pub invariant-loop-vector : goal.invariant-loop-vector
invariant-loop-vector l = l.out.items ≡ l.fn.out.items ++ text_of (map (vector_line l.n l.m) (take l.vector-index l.vectors))
