-- Networks with don't cares: what a network and the functions of its external don't cares specify.
use Rattle.std.specs.Prelude.{◌≡◌, ℕ, Bool, false, if◌then◌else◌, Option, Some, None}
use Rattle.ae_base.specs.Mask.{Set, has}
use Rattle.ae_base.specs.Source.{Source}
use Rattle.ae_base.specs.Source.Specified.{Free}
use Rattle.ae_net.specs.Implements.{port_names}
use Rattle.ae_net.specs.Network.{Network}
use Rattle.ae_net.specs.Out.{out}
use Rattle.ae_net.specs.Source.{source_of}
use Rattle.ae_net.specs.Valid.{IsValid}

-- a network, and one that shows where its outputs are free, if it has don't cares
pub record NetSource : Type 0 where
  pub net : Network
  pub free : Option Network

-- the output is free at the point
abbrev pub is_free : Option Network → ℕ → Set → Bool
is_free None o x = false
is_free (Some free) o x = has (out free None x) o

-- an output is specified Free where it is free, else as the network has it
abbrev pub specified_by : NetSource → Source
specified_by s = let own = source_of s.net in
    record { model = own.model; inputs = own.inputs; outputs = own.outputs; specified = λ o x. if is_free s.free o x then Free else own.specified o x }

-- The network of the don't cares is valid too, and has the names of the network.
pub record FreesOutputs (net free : Network) : Type 0 where
  pub valid : IsValid free
  pub model : free.model ≡ net.model
  pub inputs : free.inputs ≡ net.inputs
  pub outputs : port_names free ≡ port_names net

pub record IsValidSource (s : NetSource) : Type 0 where
  pub valid : IsValid s.net
  pub frees : (free : Network) → s.free ≡ Some free → FreesOutputs s.net free
