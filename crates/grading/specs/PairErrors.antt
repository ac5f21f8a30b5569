-- The error of a pair that is made of the errors of the calls below. For private contracts alone.
use Rattle.ae_lex.specs.declared.errors.TextErr.{TextErr}
use Rattle.ae_lex.specs.declared.errors.TextErr.TheVariants as text_err
use Rattle.blif_read.specs.declared.fault.BlifFault.{BlifFault}
use Rattle.grading.specs.declared.pair_error.PairErr.{PairErr}
use Rattle.grading.specs.declared.pair_error.PairErr.TheVariants as err
use Rattle.vec_text.specs.declared.fault.VecFault.{VecFault}

-- a netlist that is refused
abbrev pub of_net : TextErr BlifFault → PairErr
of_net (text_err.At line what) = err.Blif line what
of_net text_err.Memory = err.Memory

-- a vector text that is refused
abbrev pub of_vec : TextErr VecFault → PairErr
of_vec (text_err.At line what) = err.Vector line what
of_vec text_err.Memory = err.Memory
