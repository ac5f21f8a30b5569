use Rattle.std.proofs.Common.{◌≡◌, ◌+◌, ◌++◌, suc, drop, length}
use Rattle.std.specs.Prelude.{codes}
use Rattle.std.specs.Fmt.{decimal}
use Rattle.ae_net.specs.Gates.{inverter}
use Rattle.ae_net.specs.Names.{inner}
use Rattle.cascade.specs.Reddy.{gates_for}
use Rattle.cascade.proofs.parts.push_inverters.Given as goal

abbrev pub invariant-loop-j : goal.invariant-loop-j
invariant-loop-j l = record {
  gates : l.net.gates ++ gates_for (λ _ j. inverter (inner l.plan.lead (codes "i" ++ decimal (suc j))) j) (0 + l.j-index) (drop l.j-index l.plan.turned.items)
      ≡ l.initial.net.gates ++ gates_for (λ _ j. inverter (inner l.plan.lead (codes "i" ++ decimal (suc j))) j) 0 l.plan.turned.items;
  inputs : l.net.inputs ≡ l.initial.net.inputs;
  count : length l.net.gates ≡ length l.initial.net.gates + l.j-index;
}
