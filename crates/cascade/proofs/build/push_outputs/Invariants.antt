use Rattle.std.proofs.Common.{◌≡◌, ◌+◌, ◌++◌, drop, length}
use Rattle.cascade.specs.Reddy.{chains, ends}
use Rattle.cascade.proofs.Valid.{all_inner}
use Rattle.cascade.proofs.build.push_outputs.Given as goal

abbrev pub invariant-loop-o : goal.invariant-loop-o
invariant-loop-o l = record {
  gates : l.net.gates ++ chains l.plan.lead l.plan.expansion.now l.inner (length l.net.gates) (drop l.o l.outs) (drop l.o l.names) ≡ l.initial.net.gates ++ chains l.plan.lead l.plan.expansion.now 0 (length l.initial.net.gates) l.outs l.names;
  inputs : l.net.inputs ≡ l.initial.net.inputs;
  ports : l.ports ++ ends l.plan.expansion.now (length l.net.gates) (drop l.o l.outs) ≡ ends l.plan.expansion.now (length l.initial.net.gates) l.outs;
  inner : l.inner + all_inner (drop l.o l.outs) ≡ all_inner l.outs;
  count : length l.net.gates ≡ length l.initial.net.gates + (l.inner + l.o);
}
