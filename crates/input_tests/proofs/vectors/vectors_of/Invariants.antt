use Rattle.std.proofs.Common.{◌≡◌, ◌++◌}
use Rattle.ae_base.specs.Mask.{members}
use Rattle.expansion.specs.Even.{even_inputs}
use Rattle.input_tests.proofs.CodeLemmas.{so_far}
use Rattle.input_tests.proofs.vectors.vectors_of.Given as goal

abbrev pub invariant-loop-j : goal.invariant-loop-j
invariant-loop-j l = (l.list.items ≡ so_far l.e l.yielded) × (l.yielded ++ l.j-iterator ≡ members (even_inputs l.e))
