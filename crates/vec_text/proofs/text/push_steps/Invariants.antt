use Rattle.std.proofs.Common.{◌≡◌, ◌++◌, take, map}
use Rattle.vec_text.specs.VectorFile.{letter}
use Rattle.vec_text.proofs.text.push_steps.Given as goal

abbrev pub invariant-loop-step : goal.invariant-loop-step
invariant-loop-step l = l.out.items ≡ l.fn.out.items ++ map letter (take l.step-index l.steps)
