-- The names of faults, as the report writes them.
use Rattle.std.specs.Prelude.{ℕ, List, codes}
use Rattle.vec_text.specs.declared.fault.VecFault.{VecFault}
use Rattle.vec_text.specs.declared.fault.VecFault.TheVariants.{NoHead, Unknown, OutOfOrder, BadForm, BadNames, NameTwice, BadBits, BadNumber, BadPlace, BadEvidence, NoEnd}

abbrev pub fault_name : VecFault → List ℕ
fault_name NoHead = codes "NoHead"
fault_name Unknown = codes "Unknown"
fault_name OutOfOrder = codes "OutOfOrder"
fault_name BadForm = codes "BadForm"
fault_name BadNames = codes "BadNames"
fault_name NameTwice = codes "NameTwice"
fault_name BadBits = codes "BadBits"
fault_name BadNumber = codes "BadNumber"
fault_name BadPlace = codes "BadPlace"
fault_name BadEvidence = codes "BadEvidence"
fault_name NoEnd = codes "NoEnd"
