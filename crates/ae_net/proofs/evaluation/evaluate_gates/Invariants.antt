use Rattle.std.proofs.Common.{◌≡◌, ◌+◌, map, take}
use Rattle.ae_net.specs.Evaluation.{values_to}
use Rattle.ae_net.proofs.evaluation.evaluate_gates.Given as goal

abbrev pub invariant-loop-i : goal.invariant-loop-i
invariant-loop-i g l = map g.V.Values.told (take (l.first + l.i) l.cells) ≡ values_to (g.V.Values.domain l.values) l.net l.i
