-- What a leaf tells, and what is known of lines. For private contracts and laws alone.
use Rattle.std.specs.Prelude.{◌≡◌, ◌↔◌, ◌≤◌, Bool, true, false, Some, List, length}
use Rattle.ae_base.specs.Mask.{Set}
use Rattle.ae_net.specs.declared.net.Fault.{Fault}
use Rattle.ae_net.specs.Detects.{Detects}
use Rattle.ae_net.specs.Network.{Network}
use Rattle.redundancy.specs.declared.lines.Line.{Line}
use Rattle.redundancy.specs.declared.lines.Subcube.{Subcube}
use Rattle.redundancy.specs.Leaf.{IsIn, LeafHolds}
use Rattle.redundancy.specs.Simulation.{Known}
use Rattle.redundancy.specs.Worked.{leaf_holds}

-- the value agrees with what is known of it
abbrev pub IsAs : Known → Bool → Type 0
IsAs k a = (c : Bool) → k ≡ Some c → a ≡ c

-- what is known of a line holds of its values without and with the fault
pub record IsSound (l : Line) (a b : Bool) : Type 0 where
  pub good : IsAs l.good a
  pub faulty : IsAs l.faulty b
  pub quiet : l.quiet ≡ true → b ≡ a

-- of both values, that without the fault and that with it
abbrev pub SoundFor : Line → Bool × Bool → Type 0
SoundFor l values = IsSound l values.0 values.1

-- known both without and with the fault
abbrev pub AreKnown : Line → Type 0
AreKnown l = ((b : Bool) × (l.good ≡ Some b)) × ((b : Bool) × (l.faulty ≡ Some b))

-- Whether a leaf holds can be worked out. A leaf that holds covers the points in it; where all inputs are known, a leaf that does not hold has
-- a point that detects the fault.
pub record LeafTells (n : Network) (fault : Fault) (d : Subcube) : Type 0 where
  pub worked : (leaf_holds n fault d ≡ true) ↔ LeafHolds n fault d
  pub covers : LeafHolds n fault d → (x : Set) → IsIn x d → Detects n fault x → ⊥
  pub detects : length n.inputs ≤ d.depth → leaf_holds n fault d ≡ false → Detects n fault d.point
