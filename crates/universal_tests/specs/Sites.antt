-- The fault sites of a source input's literal, and the faults that a list of vectors detects. That a vector detects a fault is said here of
-- the outputs as the code works them out, `out`. By the law of the one run a valid network shows these and no others, so it is the same as
-- said of runs.
use Rattle.std.specs.Prelude.{◌≡◌, ◌⊎◌, ℕ, ◌+◌, ◌<◌, Some, List, length, slice_get, Contains}
use Rattle.ae_base.specs.Mask.{Set}
use Rattle.ae_net.specs.declared.net.Place.{Place}
use Rattle.ae_net.specs.declared.net.Place.TheVariants.{Stem, Pin, Port}
use Rattle.ae_net.specs.declared.net.Fault.{Fault}
use Rattle.ae_net.specs.Out.{Differs}
use Rattle.ae_net.specs.Faults.{IsPlace}
use Rattle.ae_net.specs.Gates.{inverter}
use Rattle.ae_net.specs.Network.{Network}

-- gate i is an inverter of input j
abbrev pub IsInverterOf : Network → ℕ → ℕ → Type 0
IsInverterOf n i j = (name : List ℕ) × (slice_get n.gates i ≡ Some (inverter name j))

-- the stem of input j, the stem of an inverter of it, or the pin of one
abbrev pub IsOfLiteral : Network → ℕ → Place → Type 0
IsOfLiteral n j (Stem s) = (s ≡ j) ⊎ ((i : ℕ) × (s ≡ length n.inputs + i) × IsInverterOf n i j)
IsOfLiteral n j (Pin i k) = IsInverterOf n i j
IsOfLiteral n j (Port o) = ⊥

-- some vector of the list detects the fault: the outputs differ there
abbrev pub IsDetected : Network → List Set → Fault → Type 0
IsDetected n xs fault = (x : Set) × Contains xs x × Differs n fault x

-- each fault at a site is detected, but those of the literals of the first m inputs
abbrev pub DetectsAllBut : Network → ℕ → List Set → Type 0
DetectsAllBut n m xs = (fault : Fault) → IsPlace n fault.place → ((j : ℕ) → j < m → IsOfLiteral n j fault.place → ⊥) → IsDetected n xs fault
