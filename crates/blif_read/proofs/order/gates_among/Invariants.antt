use Rattle.std.proofs.Common.{◌≡◌, take}
use Rattle.blif_read.specs.Build as spec
use Rattle.blif_read.proofs.order.gates_among.Given as goal

abbrev pub invariant-loop-signal : goal.invariant-loop-signal
invariant-loop-signal l = l.gates ≡ spec.gates_among l.inputs (take l.signal-index l.signals)
