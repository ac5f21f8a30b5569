use Rattle.std.proofs.Common.{◌≡◌, take}
use Rattle.ae_net.proofs.gates.copy_pins.Given as goal

abbrev pub invariant-loop-a : goal.invariant-loop-a
invariant-loop-a l = l.pins ≡ take l.a-index l.a-items
