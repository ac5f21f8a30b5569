use Rattle.std.proofs.Common.{◌≡◌, ◌-◌, length, map, take}
use Rattle.ae_net.specs.Network.{gate_at}
use Rattle.named_faults.proofs.names.port_names.Given as goal

abbrev pub invariant-loop-signal : goal.invariant-loop-signal
invariant-loop-signal l = l.names ≡ map (λ s. (gate_at l.net (s - length l.net.inputs)).out) (take l.signal-index l.signal-items)
