use Rattle.std.proofs.Common.{◌≤◌, length}
use Rattle.fault_sim.specs.Spread.{AreMarks, IsBegun, IsCone}
use Rattle.fault_sim.proofs.cone.begin.Given as goal

abbrev pub invariant-loop-e : goal.invariant-loop-e
invariant-loop-e l = record {
  cone : IsCone l.net l.cone;
  marks : AreMarks l.net l.cone l.start;
  within : l.start ≤ length l.net.gates;
  begun : IsBegun l.net l.held l.good l.cone l.e;
}
