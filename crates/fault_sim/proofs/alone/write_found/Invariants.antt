use Rattle.std.proofs.Common.{◌≡◌, length}
use Rattle.fault_sim.specs.Taken.{AreWritten}
use Rattle.fault_sim.proofs.alone.write_found.Given as goal

abbrev pub invariant-loop-e : goal.invariant-loop-e
invariant-loop-e l = record {
  len : length l.found ≡ length l.fn.found;
  written : AreWritten l.told l.point l.ids l.fn.found l.found l.e;
}
