use Rattle.std.proofs.Common.{◌≡◌, ◌++◌}
use Rattle.ae_base.specs.Mask.{members}
use Rattle.expansion.specs.Terms.{used_inputs}
use Rattle.universal_tests.proofs.AtVectors.{so_far}
use Rattle.universal_tests.proofs.vectors.vectors_of.Given as goal

abbrev pub invariant-loop-j : goal.invariant-loop-j
invariant-loop-j l = record { list : l.list.items ≡ so_far l.e.polarity (used_inputs l.e) l.yielded; left : l.yielded ++ l.j-iterator ≡ members (used_inputs l.e) }
