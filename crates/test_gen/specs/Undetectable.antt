-- Undetectable faults, and lists of points that detect all others, each point a fault that no earlier one does.
use Rattle.std.specs.Prelude.{◌⊎◌, List, length, Contains}
use Rattle.ae_base.specs.Mask.{Set}
use Rattle.ae_base.specs.Terms.{IsPoint}
use Rattle.ae_net.specs.declared.net.Fault.{Fault}
use Rattle.ae_net.specs.Detects.{Detects}
use Rattle.ae_net.specs.Faults.{IsPlace}
use Rattle.ae_net.specs.Network.{Network}

-- no point at all detects the fault
abbrev pub IsUndetectable : Network → Fault → Type 0
IsUndetectable n fault = (x : Set) → IsPoint (length n.inputs) x → ¬ Detects n fault x

-- some point of the list detects the fault
abbrev pub IsDetected : Network → List Set → Fault → Type 0
IsDetected n points fault = (x : Set) × Contains points x × Detects n fault x

-- each fault at a place is detected by a point of the list or by no point at all
abbrev pub IsComplete : Network → List Set → Type 0
IsComplete n points = (fault : Fault) → IsPlace n fault.place → IsDetected n points fault ⊎ IsUndetectable n fault
