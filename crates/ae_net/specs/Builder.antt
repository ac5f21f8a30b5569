-- Networks in the making.
use Rattle.std.specs.Prelude.{ℕ, ◌+◌, List, length}
use Rattle.ae_net.specs.declared.net.Gate.{Gate}
use Rattle.ae_net.specs.Network.{Network}

-- the names of the inputs, and the gates so far
pub record Built : Type 0 where
  pub inputs : List (List ℕ)
  pub gates : List Gate

-- the signal that the next gate has
abbrev pub next : Built → ℕ
next b = length b.inputs + length b.gates

-- the network of this name whose output ports show these signals
abbrev pub network : Built → List ℕ → List ℕ → Network
network b model outputs = record { model = model; inputs = b.inputs; outputs = outputs; gates = b.gates }
