-- Undetectable faults (the single stuck-at model): redundant lines.
use Rattle.ae_base.specs.Mask.{Set}
use Rattle.ae_net.specs.declared.net.Fault.{Fault}
use Rattle.ae_net.specs.Detects.{Detects}
use Rattle.ae_net.specs.Network.{Network}

-- no point at all detects the fault
abbrev pub IsUndetectable : Network → Fault → Type 0
IsUndetectable n fault = (x : Set) → ¬ Detects n fault x
