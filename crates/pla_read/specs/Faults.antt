-- The names of faults, as the report writes them.
use Rattle.std.specs.Prelude.{ℕ, List, codes}
use Rattle.pla_read.specs.declared.fault.PlaFault.{PlaFault}
use Rattle.pla_read.specs.declared.fault.PlaFault.TheVariants.{NoI, NoO, BadNumber, TooManyInputs, TooManyOutputs, BadNames, NameTwice, BadType, Late, Unsupported, Unknown, BadChar, BadWidth, TooManyRows, Clash}

abbrev pub fault_name : PlaFault → List ℕ
fault_name NoI = codes "NoI"
fault_name NoO = codes "NoO"
fault_name BadNumber = codes "BadNumber"
fault_name TooManyInputs = codes "TooManyInputs"
fault_name TooManyOutputs = codes "TooManyOutputs"
fault_name BadNames = codes "BadNames"
fault_name NameTwice = codes "NameTwice"
fault_name BadType = codes "BadType"
fault_name Late = codes "Late"
fault_name Unsupported = codes "Unsupported"
fault_name Unknown = codes "Unknown"
fault_name BadChar = codes "BadChar"
fault_name BadWidth = codes "BadWidth"
fault_name TooManyRows = codes "TooManyRows"
fault_name Clash = codes "Clash"
