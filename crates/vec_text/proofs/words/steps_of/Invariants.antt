use Rattle.std.proofs.Common.{◌≡◌, take, map}
use Rattle.vec_text.specs.Words.{step_said}
use Rattle.vec_text.proofs.words.steps_of.Given as goal

abbrev pub invariant-loop-b : goal.invariant-loop-b
invariant-loop-b l = l.steps ≡ map step_said (take l.b-index l.word)
