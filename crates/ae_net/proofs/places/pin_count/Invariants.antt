use Rattle.std.proofs.Common.{◌≡◌, ◌≤◌, ◌*◌, length}
use Rattle.std.specs.List.{flat_map, range_with_len}
use Rattle.ae_base.specs.declared.limits.TheConstants.{PINS}
use Rattle.ae_net.specs.Faults.{pins_of}
use Rattle.ae_net.specs.Network.{gate_at}
use Rattle.ae_net.proofs.places.pin_count.Given as goal

abbrev pub invariant-loop-i : goal.invariant-loop-i
invariant-loop-i l = (l.sum ≡ length (flat_map (λ i. pins_of i (gate_at l.net i)) (range_with_len 0 l.i))) × (l.sum ≤ PINS * l.i)
