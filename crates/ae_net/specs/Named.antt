-- Networks whose gates name their pins: places are found by name.
use Rattle.std.specs.Prelude.{ℕ, Bool, List, ◌++◌, map, bytes_eq}
use Rattle.std.specs.List.{position_or_len}
use Rattle.ae_base.specs.Cube.{Product}
use Rattle.ae_net.specs.declared.net.Gate.{Gate}
use Rattle.ae_net.specs.Network.{Network}

-- a gate by its name, the names of its pins, and its rows over the positions of the pins
pub record NamedGate : Type 0 where
  pub out : List ℕ
  pub pins : List (List ℕ)
  pub rows : List Product
  pub on : Bool

-- the place of a name in a list
abbrev pub place_of : List ℕ → List (List ℕ) → ℕ
place_of w ws = position_or_len (bytes_eq w) ws

-- the gate in a network whose signals have these names
abbrev pub gate_of : List (List ℕ) → NamedGate → Gate
gate_of names g = record { out = g.out; pins = map (λ pin. place_of pin names) g.pins; rows = g.rows; on = g.on }

-- the network of these inputs, outputs and gates, the gates being in order
unfoldable pub net_of : (model : List ℕ) (inputs outputs : List (List ℕ)) → List NamedGate → Network
net_of model inputs outputs gates =
    let names = inputs ++ map (λ g. g.out) gates in
    record { model = model; inputs = inputs; outputs = map (λ o. place_of o names) outputs; gates = map (gate_of names) gates }
