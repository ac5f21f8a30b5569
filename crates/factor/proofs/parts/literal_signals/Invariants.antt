use Rattle.std.proofs.Common.{◌≡◌, map}
use Rattle.ae_base.specs.Mask.{has}
use Rattle.factor.specs.Cells.{literal_signal}
use Rattle.factor.proofs.parts.literal_signals.Given as goal

abbrev pub invariant-loop-j : goal.invariant-loop-j
invariant-loop-j l = l.pins ≡ map (λ j. literal_signal l.wires (has l.fn.literals.pos j) j) l.yielded
