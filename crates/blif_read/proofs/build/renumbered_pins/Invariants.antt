use Rattle.std.proofs.Common.{◌≡◌, map, take}
use Rattle.blif_read.specs.Build as spec
use Rattle.blif_read.proofs.build.renumbered_pins.Given as goal

abbrev pub invariant-loop-signal : goal.invariant-loop-signal
invariant-loop-signal l = l.pins ≡ map (spec.renumbered l.inputs l.ranks) (take l.signal-index l.signals)
