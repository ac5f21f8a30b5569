-- A netlist and a vector file with the same names, and which pairs of texts are none.
use Rattle.std.specs.Prelude.{◌≡◌, ℕ, Ok, Err, List}
use Rattle.ae_net.specs.Implements.{port_names}
use Rattle.ae_net.specs.Network.{Network}
use Rattle.blif_read.specs.Says.{blif_says}
use Rattle.blif_read.specs.declared.fault.NetLimits.TheVariants.{Written}
use Rattle.vec_text.specs.Says.{vec_says}
use Rattle.vec_text.specs.VectorFile.{VectorFile}
use Rattle.vec_text.specs.declared.fault.VecFault.{VecFault}

-- the names of the vector file are those of the network, as lists
pub record HaveSameNames (n : Network) (file : VectorFile) : Type 0 where
  pub inputs : file.inputs ≡ n.inputs
  pub outputs : file.outputs ≡ port_names n

-- These bytes say a network, under the limits of a written netlist, and those say a vector file.
pub record SayBoth (net_bytes vec_bytes : List ℕ) (n : Network) (file : VectorFile) : Type 0 where
  pub net_says : blif_says Written net_bytes ≡ Ok n
  pub file_says : vec_says vec_bytes ≡ Ok file

-- They do, with the same names.
pub record IsPair (net_bytes vec_bytes : List ℕ) (n : Network) (file : VectorFile) : Type 0 where
  pub say : SayBoth net_bytes vec_bytes n file
  pub names : HaveSameNames n file

-- They do, and a list of names differs.
pub record HasOtherNames (net_bytes vec_bytes : List ℕ) : Type 0 where
  pub net : Network
  pub file : VectorFile
  pub say : SayBoth net_bytes vec_bytes net file
  pub differ : ¬ HaveSameNames net file

-- The bytes of the netlist have no fault, and this is the first of the vector text.
pub record HasVectorFault (net_bytes vec_bytes : List ℕ) (line : ℕ) (what : VecFault) : Type 0 where
  pub net : Network
  pub net_says : blif_says Written net_bytes ≡ Ok net
  pub file_says : vec_says vec_bytes ≡ Err (line, what)

-- a pair has a report
pub record AreGradable (net_bytes vec_bytes : List ℕ) : Type 0 where
  pub net : Network
  pub file : VectorFile
  pub pair : IsPair net_bytes vec_bytes net file
