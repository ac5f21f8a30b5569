-- The error of a synthesis that is made of the fault of a text, and of the errors of the calls below.
use Rattle.std.specs.Prelude.{ℕ}
use Rattle.blif_read.specs.declared.fault.BlifFault.{BlifFault}
use Rattle.expansion.specs.declared.functions.ExpandErr.{ExpandErr}
use Rattle.expansion.specs.declared.functions.ExpandErr.TheVariants as expand_err
use Rattle.ae_lex.specs.declared.errors.TextErr.{TextErr}
use Rattle.ae_lex.specs.declared.errors.TextErr.TheVariants as text_err
use Rattle.pla_read.specs.declared.fault.PlaFault.{PlaFault}
use Rattle.synth_core.specs.declared.error.SynthErr.{SynthErr}
use Rattle.synth_core.specs.declared.error.SynthErr.TheVariants as err
use Rattle.synth_core.specs.declared.fault.TextFault.{TextFault}
use Rattle.synth_core.specs.declared.fault.TextFault.TheVariants as text

-- the first fault of a text, with its line
abbrev pub of_text : ℕ → TextFault → SynthErr
of_text line (text.Pla what) = err.Pla line what
of_text line (text.Blif what) = err.Blif line what

-- a PLA text that is refused
abbrev pub of_pla : TextErr PlaFault → SynthErr
of_pla (text_err.At line what) = err.Pla line what
of_pla text_err.Memory = err.Memory

-- a BLIF text that is refused
abbrev pub of_blif : TextErr BlifFault → SynthErr
of_blif (text_err.At line what) = err.Blif line what
of_blif text_err.Memory = err.Memory

-- functions that have too many terms
abbrev pub of_expand : ExpandErr → SynthErr
of_expand (expand_err.TooManyTerms output) = err.TooManyTerms output
of_expand expand_err.Memory = err.Memory
