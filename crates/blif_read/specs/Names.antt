-- The names of faults, as the report writes them.
use Rattle.std.specs.Prelude.{ℕ, List, codes}
use Rattle.blif_read.specs.declared.fault.BlifFault.{BlifFault}
use Rattle.blif_read.specs.declared.fault.BlifFault.TheVariants.{TwoModels, AfterEnd, Unsupported, Unknown, BadName, BadRow, MixedRows, StrayRow, DefinedTwice, Undefined, Cycle, NameTwice, OutputIsInput, NoInputs, NoOutputs, TooManyInputs, TooManyOutputs, TooManyPins, TooManyGates, ExdcTwice, ExdcName}

abbrev pub fault_name : BlifFault → List ℕ
fault_name TwoModels = codes "TwoModels"
fault_name AfterEnd = codes "AfterEnd"
fault_name Unsupported = codes "Unsupported"
fault_name Unknown = codes "Unknown"
fault_name BadName = codes "BadName"
fault_name BadRow = codes "BadRow"
fault_name MixedRows = codes "MixedRows"
fault_name StrayRow = codes "StrayRow"
fault_name DefinedTwice = codes "DefinedTwice"
fault_name Undefined = codes "Undefined"
fault_name Cycle = codes "Cycle"
fault_name NameTwice = codes "NameTwice"
fault_name OutputIsInput = codes "OutputIsInput"
fault_name NoInputs = codes "NoInputs"
fault_name NoOutputs = codes "NoOutputs"
fault_name TooManyInputs = codes "TooManyInputs"
fault_name TooManyOutputs = codes "TooManyOutputs"
fault_name TooManyPins = codes "TooManyPins"
fault_name TooManyGates = codes "TooManyGates"
fault_name ExdcTwice = codes "ExdcTwice"
fault_name ExdcName = codes "ExdcName"
