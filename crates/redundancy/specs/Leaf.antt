-- Leaves of an evidence tree: a leaf is a subcube of the points, and holds where the simulation shows that no point in it detects the fault.
use Rattle.std.specs.Prelude.{◌≡◌, ◌⊎◌, ℕ, suc, ◌<◌, Bool, true, Some, List, length, slice_index}
use Rattle.ae_base.specs.Mask.{Set, has, empty, with, without}
use Rattle.ae_net.specs.declared.net.Place.{Place}
use Rattle.ae_net.specs.declared.net.Place.TheVariants.{Stem, Pin, Port}
use Rattle.ae_net.specs.declared.net.Fault.{Fault}
use Rattle.ae_net.specs.Network.{Network, gate_at}
use Rattle.redundancy.specs.declared.lines.Line.{Line}
use Rattle.redundancy.specs.declared.lines.Subcube.{Subcube}
use Rattle.redundancy.specs.Simulation.{held, line_of, IsSimulation}

-- the point agrees with the subcube at the known inputs
abbrev pub IsIn : Set → Subcube → Type 0
IsIn x d = (j : ℕ) → j < d.depth → has x j ≡ has d.point j

-- all points
abbrev pub whole : Subcube
whole = record { depth = 0; point = empty }

-- the half in which the next input is 0
abbrev pub low : Subcube → Subcube
low d = record { depth = suc d.depth; point = without d.point d.depth }

-- the half in which the next input is 1
abbrev pub high : Subcube → Subcube
high d = record { depth = suc d.depth; point = with d.point d.depth }

-- the line of a place, by its signal
abbrev pub line_at : Network → List Line → Place → Line
line_at n lines (Stem s) = line_of lines s
line_at n lines (Pin i k) = line_of lines (slice_index (gate_at n i).pins k)
line_at n lines (Port o) = line_of lines (slice_index n.outputs o)

abbrev pub port_line : Network → Fault → List Line → ℕ → Line
port_line n fault lines o = held fault (Port o) (line_of lines (slice_index n.outputs o))

-- it is quiet, or known with one value both without and with the fault
abbrev pub IsUntouched : Line → Type 0
IsUntouched line = (line.quiet ≡ true) ⊎ ((b : Bool) × (line.good ≡ Some b) × (line.faulty ≡ Some b))

-- The fault's line is known, without the fault, to have the stuck value already; or each port is untouched.
pub record LeafHolds (n : Network) (fault : Fault) (d : Subcube) : Type 0 where
  pub lines : List Line
  pub is_simulation : IsSimulation n fault d lines
  pub shows_nothing : ((line_at n lines fault.place).good ≡ Some fault.value) ⊎ ((o : ℕ) → o < length n.outputs → IsUntouched (port_line n fault lines o))
