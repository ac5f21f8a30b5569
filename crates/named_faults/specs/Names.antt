-- Fault sites and faults by the names of their network.
use Rattle.std.specs.Prelude.{suc}
use Rattle.ae_net.specs.Blif.{name_of, signal_names}
use Rattle.ae_net.specs.Implements.{port_names}
use Rattle.ae_net.specs.Network.{Network, gate_at}
use Rattle.ae_net.specs.declared.net.Fault.{Fault}
use Rattle.ae_net.specs.declared.net.Place.{Place}
use Rattle.ae_net.specs.declared.net.Place.TheVariants as place
use Rattle.named_faults.specs.declared.names.NamedFault.{NamedFault}
use Rattle.vec_text.specs.declared.file.PlaceName.{PlaceName}
use Rattle.vec_text.specs.declared.file.PlaceName.TheVariants.{Stem, Pin, Port}

-- a stem by its signal's name, a pin by its gate's and its number from 1 on, a port by its own
abbrev pub place_name : Network → Place → PlaceName
place_name n (place.Stem s) = Stem (name_of (signal_names n) s)
place_name n (place.Pin i k) = Pin (gate_at n i).out (suc k)
place_name n (place.Port o) = Port (name_of (port_names n) o)

unfoldable pub named : Network → Fault → NamedFault
named n fault = record { place = place_name n fault.place; value = fault.value }
