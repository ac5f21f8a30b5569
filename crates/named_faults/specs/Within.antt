-- What is asked of a place whose names are read. For private contracts alone.
use Rattle.std.specs.Prelude.{◌<◌, length}
use Rattle.ae_base.specs.declared.limits.TheConstants.{PINS}
use Rattle.ae_net.specs.Network.{Network, signals}
use Rattle.ae_net.specs.declared.net.Place.{Place}
use Rattle.ae_net.specs.declared.net.Place.TheVariants.{Stem, Pin, Port}

-- the place is one of a signal, of a gate with few pins or of an output
abbrev pub IsWithin : Network → Place → Type 0
IsWithin n (Stem s) = s < signals n
IsWithin n (Pin i k) = (i < length n.gates) × (k < PINS)
IsWithin n (Port o) = o < length n.outputs
