use Rattle.std.proofs.Common.{◌≡◌, take}
use Rattle.synth_core.specs.Steps.{vectors_of}
use Rattle.synth_core.proofs.vector_files.vectors.Given as goal

abbrev pub invariant-loop-k : goal.invariant-loop-k
invariant-loop-k l = l.vectors ≡ vectors_of l.net (take l.k l.points)
