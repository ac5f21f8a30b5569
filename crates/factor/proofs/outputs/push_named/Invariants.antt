use Rattle.std.proofs.Common.{◌≡◌, ◌+◌, ◌++◌, drop, length}
use Rattle.factor.specs.Factored.{named}
use Rattle.factor.proofs.outputs.push_named.Given as goal

abbrev pub invariant-loop-i : goal.invariant-loop-i
invariant-loop-i l = record {
  gates : l.net.gates ++ named l.lead (l.number + l.i) l.out (drop l.i l.cells) ≡ l.initial.net.gates ++ named l.lead l.number l.out l.cells;
  count : length l.net.gates ≡ length l.initial.net.gates + l.i;
  inputs : l.net.inputs ≡ l.initial.net.inputs;
}
