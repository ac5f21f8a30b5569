use Rattle.std.specs.Prelude.{take}
use Rattle.ae_net.specs.Faults.{is_read_by}
use Rattle.ae_net.specs.Marks.{Marks}
use Rattle.ae_net.proofs.places.mark_pins.Given as goal

abbrev pub invariant-loop-i : goal.invariant-loop-i
invariant-loop-i l = Marks (is_read_by (take l.i l.net.gates)) l.fn.marks l.marks
