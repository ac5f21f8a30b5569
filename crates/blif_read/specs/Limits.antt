-- Which networks are within the limits asked for.
use Rattle.std.specs.Prelude.{◌≡◌, ◌≤◌, true, ◌++◌, length, map, All}
use Rattle.ae_net.specs.Network.{Network}
use Rattle.blif_read.specs.declared.fault.NetLimits.{NetLimits}
use Rattle.blif_read.specs.Words.{most_lines, is_name_under}

-- not too many inputs and outputs, and each signal's name is short enough: the other limits are those of every valid network
pub record KeepsLimits (limits : NetLimits) (n : Network) : Type 0 where
  pub few_inputs : length n.inputs ≤ most_lines limits
  pub few_outputs : length n.outputs ≤ most_lines limits
  pub named : All (λ name. is_name_under limits name ≡ true) (n.inputs ++ map (λ gate. gate.out) n.gates)
