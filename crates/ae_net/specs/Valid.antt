-- Which networks are valid.
use Rattle.std.specs.Prelude.{◌≡◌, ◌≢◌, ℕ, ◌+◌, ◌<◌, ◌≤◌, true, false, Some, List, ◌++◌, length, map, slice_get, All, AllPairs}
use Rattle.ae_base.specs.Mask.{inside, first}
use Rattle.ae_base.specs.Cube.{Product, IsProduct}
use Rattle.ae_base.specs.Name.{is_name}
use Rattle.ae_net.specs.declared.net.Gate.{Gate}
use Rattle.ae_base.specs.declared.limits.TheConstants.{NET_LINES, PINS, GATES}
use Rattle.ae_net.specs.Network.{Network, signals}

-- a row over k pins: a product that holds only positions of pins
pub record IsRowOf (k : ℕ) (row : Product) : Type 0 where
  pub is_product : IsProduct row
  pub pos : inside row.pos (first k) ≡ true
  pub neg : inside row.neg (first k) ≡ true

-- a gate whose signal has the number s
pub record IsGate (s : ℕ) (gate : Gate) : Type 0 where
  pub earlier : All (λ pin. pin < s) gate.pins
  pub named : is_name gate.out ≡ true
  pub few_pins : length gate.pins ≤ PINS
  pub rows : All (IsRowOf (length gate.pins)) gate.rows
  pub off_row : gate.on ≡ false → 0 < length gate.rows

-- no element stands in two places
abbrev pub IsDistinct : {X : Type 0} → List X → Type 0
IsDistinct {X} xs = AllPairs (λ x y. x ≢ y) xs

pub record IsValid (n : Network) : Type 0 where
  pub model_named : is_name n.model ≡ true
  pub inputs_named : All (λ name. is_name name ≡ true) n.inputs
  pub some_input : 0 < length n.inputs
  pub few_inputs : length n.inputs ≤ NET_LINES
  pub names : IsDistinct (n.inputs ++ map (λ gate. gate.out) n.gates)
  pub few_gates : length n.gates ≤ GATES
  pub gates : (i : ℕ) (gate : Gate) → slice_get n.gates i ≡ Some gate → IsGate (length n.inputs + i) gate
  pub some_output : 0 < length n.outputs
  pub few_outputs : length n.outputs ≤ NET_LINES
  pub ports : All (λ s. (length n.inputs ≤ s) × (s < signals n)) n.outputs
  pub other_ports : IsDistinct n.outputs
