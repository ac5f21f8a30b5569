use Rattle.std.proofs.Common.{◌≡◌}
use Rattle.ae_base.specs.Mask.{where_below}
use Rattle.redundancy.specs.Kept.{pin_kept, view_of}
use Rattle.redundancy.specs.Simulation.{is_one, is_zero}
use Rattle.redundancy.proofs.lines.known_pins.Given as goal

abbrev pub invariant-loop-k : goal.invariant-loop-k
invariant-loop-k l = (l.ones ≡ where_below l.k (λ k. is_one (view_of l.view (pin_kept l.fault l.bytes l.i l.gate k)))) × (l.zeros ≡ where_below l.k (λ k. is_zero (view_of l.view (pin_kept l.fault l.bytes l.i l.gate k))))
