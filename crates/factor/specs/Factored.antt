-- The factored network of an ESOP.
use Rattle.std.specs.Prelude.{◌≡◌, ℕ, suc, ◌+◌, ◌-◌, Bool, List, [], ◌∷◌, ◌++◌, length, map, filter, codes}
use Rattle.std.specs.List.{AllZip, list_any, range_with_len}
use Rattle.std.specs.Fmt.{decimal}
use Rattle.ae_base.specs.Mask.{has}
use Rattle.ae_base.specs.Cube.{Product}
use Rattle.ae_net.specs.declared.net.Gate.{Gate}
use Rattle.ae_net.specs.Lead.{lead}
use Rattle.ae_net.specs.Names.{Names, inner}
use Rattle.ae_net.specs.Network.{Network}
use Rattle.esop.specs.Esop.{Cubes}
use Rattle.ae_net.specs.declared.gates.Cell.{Cell}
use Rattle.factor.specs.declared.parts.Wires.{Wires}
use Rattle.ae_net.specs.Gates.{inverter, gate_of}
use Rattle.factor.specs.Cells.{output_cells}
use Rattle.factor.specs.Sums.{Summands, IsSum}

-- the complemented literal of the input stands in some cube
abbrev pub is_turned : List (List Product) → ℕ → Bool
is_turned outs j = list_any (λ cs. list_any (λ c. has c.neg j) cs) outs

-- the inputs, and those of them that have an inverter, in order
abbrev pub wires : Cubes → Wires
wires e = record { inputs = e.n; turned = filter (is_turned e.outs) (range_with_len 0 e.n) }

abbrev pub inverters : ℕ → List ℕ → List Gate
inverters k turned = map (λ j. inverter (inner k (codes "i" ++ decimal (suc j))) j) turned

-- The last gate of an output has the output's name. Each other gate gets the next number, c of them having one before.
abbrev pub named : ℕ → ℕ → List ℕ → List Cell → List Gate
named k c out [] = []
named k c out (cell ∷ []) = gate_of out cell ∷ []
named k c out (cell ∷ next ∷ cells) = gate_of (inner k (codes "g" ++ decimal (suc c))) cell ∷ named k (suc c) out (next ∷ cells)

-- the gates of the outputs, the first with the signal s, c inner gates having a number before
abbrev pub output_gates : ℕ → Wires → ℕ → ℕ → List Summands → List (List ℕ) → List Gate
output_gates k w s c [] outs = []
output_gates k w s c (sum ∷ sums) [] = []
output_gates k w s c (sum ∷ sums) (out ∷ outs) =
    let cells = output_cells w s sum in
    named k c out cells ++ output_gates k w (s + length cells) (c + (length cells - 1)) sums outs

-- the signals of the outputs' last gates
abbrev pub ends : Wires → ℕ → List Summands → List ℕ
ends w s [] = []
ends w s (sum ∷ sums) = let cells = output_cells w s sum in (s + (length cells - 1)) ∷ ends w (s + length cells) sums

-- the network of these sums, whose inner names begin with k underscores
unfoldable pub network_of : ℕ → Names → Wires → List Summands → Network
network_of k names w sums = record {
  model = names.model;
  inputs = names.inputs;
  outputs = ends w (w.inputs + length w.turned) sums;
  gates = inverters k w.turned ++ output_gates k w (w.inputs + length w.turned) 0 sums names.outputs;
}

-- each is the sum of the list in the same place
abbrev pub AreSums : List (List Product) → List Summands → Type 0
AreSums outs sums = AllZip IsSum outs sums

-- The network is that of the sums of the outputs' cubes.
pub record HasFactoredForm (names : Names) (e : Cubes) (net : Network) : Type 0 where
  pub sums : List Summands
  pub are_sums : AreSums e.outs sums
  pub is : net ≡ network_of (lead names) names (wires e) sums
