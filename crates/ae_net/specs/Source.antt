-- The source that a network is.
use Rattle.std.specs.Prelude.{None, if◌then◌else◌}
use Rattle.ae_base.specs.Mask.{has}
use Rattle.ae_base.specs.Source.{Source}
use Rattle.ae_base.specs.Source.Specified.{On, Off}
use Rattle.ae_net.specs.Implements.{port_names}
use Rattle.ae_net.specs.Network.{Network}
use Rattle.ae_net.specs.Out.{out}

-- its outputs are its ports; each is specified On where it shows 1, else Off
abbrev pub source_of : Network → Source
source_of n = record { model = n.model; inputs = n.inputs; outputs = port_names n; specified = λ o x. if has (out n None x) o then On else Off }
