use Rattle.std.proofs.Common.{◌≡◌, ◌+◌, ◌++◌, ◌≤◌, drop, length}
use Rattle.ae_base.specs.declared.limits.TheConstants.{GATES}
use Rattle.factor.specs.Factored.{output_gates, ends}
use Rattle.factor.specs.Plan.{sums_of, most_gates}
use Rattle.factor.proofs.outputs.push_outputs.Given as goal

abbrev pub invariant-loop-o : goal.invariant-loop-o
invariant-loop-o l = record {
  gates : l.net.gates ++ output_gates l.plan.lead l.plan.wires (l.plan.wires.inputs + length l.net.gates) l.number (drop l.o (sums_of l.plan)) (drop l.o l.names)
      ≡ l.initial.net.gates ++ output_gates l.plan.lead l.plan.wires (l.plan.wires.inputs + length l.initial.net.gates) 0 (sums_of l.plan) l.names;
  ports : l.ports ++ ends l.plan.wires (l.plan.wires.inputs + length l.net.gates) (drop l.o (sums_of l.plan)) ≡ ends l.plan.wires (l.plan.wires.inputs + length l.initial.net.gates) (sums_of l.plan);
  small : l.number ≤ length l.net.gates;
  inputs : l.net.inputs ≡ l.initial.net.inputs;
  room : length l.net.gates + most_gates (drop l.o (sums_of l.plan)) ≤ GATES;
}
