use Rattle.std.proofs.Common.{◌≡◌, ◌+◌, ◌++◌, suc, drop, length, map}
use Rattle.std.specs.Prelude.{codes}
use Rattle.std.specs.Fmt.{decimal}
use Rattle.ae_base.specs.Mask.{members}
use Rattle.ae_net.specs.Gates.{and_gate}
use Rattle.ae_net.specs.Names.{inner}
use Rattle.cascade.specs.Reddy.{gates_for, literal_signal}
use Rattle.cascade.proofs.parts.push_ands.Given as goal

abbrev pub invariant-loop-i : goal.invariant-loop-i
invariant-loop-i l = record {
  gates : l.net.gates ++ gates_for (λ i t. and_gate (inner l.plan.lead (codes "t" ++ decimal (suc i))) (map (literal_signal l.plan.expansion.now) (members t))) (0 + l.i) (drop l.i l.plan.wide.items)
      ≡ l.initial.net.gates ++ gates_for (λ i t. and_gate (inner l.plan.lead (codes "t" ++ decimal (suc i))) (map (literal_signal l.plan.expansion.now) (members t))) 0 l.plan.wide.items;
  inputs : l.net.inputs ≡ l.initial.net.inputs;
  count : length l.net.gates ≡ length l.initial.net.gates + l.i;
}
