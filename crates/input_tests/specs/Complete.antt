-- Which vectors detect every fault, said of the outputs as the code works them out (`out`).
use Rattle.std.specs.Prelude.{List}
use Rattle.ae_base.specs.Mask.{Set}
use Rattle.ae_net.specs.declared.net.Fault.{Fault}
use Rattle.ae_net.specs.Faults.{IsPlace}
use Rattle.ae_net.specs.Network.{Network}
use Rattle.universal_tests.specs.Sites.{IsDetected}

-- each fault at a site is detected
abbrev pub DetectsAll : Network → List Set → Type 0
DetectsAll n xs = (fault : Fault) → IsPlace n fault.place → IsDetected n xs fault
