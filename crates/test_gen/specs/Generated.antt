-- What else the generated tests are. For private contracts alone.
use Rattle.std.specs.Prelude.{ℕ, ◌<◌, Bool, List, is_none, length}
use Rattle.ae_base.specs.Cube.{Signs}
use Rattle.ae_base.specs.Mask.{Set}
use Rattle.ae_net.specs.declared.net.Fault.{Fault}
use Rattle.ae_net.specs.Faults.{IsPlace}
use Rattle.ae_net.specs.Network.{Network}
use Rattle.fault_sim.specs.Answers.{IsFirst}
use Rattle.test_gen.specs.Tests.{test_for}

-- the fault changes no output at any point
abbrev pub has_no_test : Network → Signs → Fault → Bool
has_no_test n p fault = is_none (test_for n p fault)

-- each point of the list detects a fault that no earlier one does
abbrev pub IsEachNew : Network → List Set → Type 0
IsEachNew n points = (k : ℕ) → k < length points → (fault : Fault) × IsPlace n fault.place × IsFirst n points fault k
