-- What the factored network shows, and its EXOR gates.
use Rattle.std.specs.Prelude.{◌≡◌, ℕ, ◌≤◌, ◌==◌, Bool, false, ◌&&◌, Some, None, List, [], ◌∷◌, length, slice_get, sum_by, count_by}
use Rattle.ae_base.specs.Mask.{Set, has, empty, with}
use Rattle.ae_base.specs.Cube.{Product}
use Rattle.ae_net.specs.declared.net.Gate.{Gate}
use Rattle.ae_net.specs.Implements.{port_names}
use Rattle.ae_net.specs.Names.{Names, IsNames}
use Rattle.ae_net.specs.Network.{Network}
use Rattle.ae_net.specs.Run.{Shows}
use Rattle.esop.specs.Esop.{Cubes, esop_value}
use Rattle.esop.specs.Kept.{IsCubes}
use Rattle.esop.specs.Settled.{AreSettled}
use Rattle.ae_base.specs.declared.limits.TheConstants.{FACTORED_CUBES}

-- one list of cubes for each output name, over as many inputs as there are input names
pub record Fits (names : Names) (e : Cubes) : Type 0 where
  pub inputs : e.n ≡ length names.inputs
  pub outputs : length e.outs ≡ length names.outputs

-- the number of cubes of all outputs
abbrev pub cube_count : Cubes → ℕ
cube_count e = sum_by length e.outs

-- what is to be known of a source's names and cubes to build their factored network
pub record CanBuild (names : Names) (e : Cubes) : Type 0 where
  pub named : IsNames names
  pub cubes : IsCubes e
  pub fits : Fits names e
  pub few : cube_count e ≤ FACTORED_CUBES
  pub settled : AreSettled e

-- the outputs have the values of their lists of cubes
abbrev pub AreValues : Cubes → Set → Set → Type 0
AreValues e x ys = (o : ℕ) (cs : List Product) → slice_get e.outs o ≡ Some cs → has ys o ≡ esop_value cs x

-- at each point the network shows the values of the lists of cubes
abbrev pub ShowsEsop : Network → Cubes → Type 0
ShowsEsop n e = (x : Set) → (ys : Set) × Shows n None x ys × AreValues e x ys

-- the row that holds where pin a is 1 and pin b is 0
abbrev pub is_row : ℕ → ℕ → Product → Bool
is_row a b row = row.pos == with empty a && row.neg == with empty b

-- the rows `10` and `01`
abbrev pub are_exor_rows : List Product → Bool
are_exor_rows (row ∷ other ∷ []) = is_row 0 1 row && is_row 1 0 other
are_exor_rows _ = false

-- a gate of two pins that is 1 exactly where one of them is 1 and the other 0
abbrev pub is_exor : Gate → Bool
is_exor gate = length gate.pins == 2 && gate.on && are_exor_rows gate.rows

-- the number of EXOR gates
unfoldable pub exor_count : Network → ℕ
exor_count n = count_by is_exor n.gates

-- the model, the inputs and the output ports have the names of the source, in order
pub record HasNames (names : Names) (n : Network) : Type 0 where
  pub model : n.model ≡ names.model
  pub inputs : n.inputs ≡ names.inputs
  pub ports : port_names n ≡ names.outputs
