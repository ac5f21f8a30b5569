-- Which vectors detect a fault (the single stuck-at model).
use Rattle.std.specs.Prelude.{◌≢◌, Some, None, List, Contains}
use Rattle.ae_base.specs.Mask.{Set}
use Rattle.ae_net.specs.declared.net.Fault.{Fault}
use Rattle.ae_net.specs.Faults.{IsPlace}
use Rattle.ae_net.specs.Network.{Network}
use Rattle.ae_net.specs.Run.{Shows}

-- The outputs that the network shows at the point with the fault differ from those without it.
pub record Detects (n : Network) (fault : Fault) (x : Set) : Type 0 where
  pub good : Set
  pub shows_good : Shows n None x good
  pub faulty : Set
  pub shows_faulty : Shows n (Some fault) x faulty
  pub differ : faulty ≢ good

-- every single stuck-at fault at a fault site is detected by some of the vectors
abbrev pub DetectsEveryFault : Network → List Set → Type 0
DetectsEveryFault n xs = (fault : Fault) → IsPlace n fault.place → (x : Set) × Contains xs x × Detects n fault x
