-- For private contracts alone: why a command stops, made of the error of a call below it.
use Rattle.std.specs.Prelude.{ℕ}
use Rattle.grading.specs.declared.pair_error.PairErr.{PairErr}
use Rattle.grading.specs.declared.pair_error.PairErr.TheVariants as pair_err
use Rattle.synth_core.specs.declared.error.SynthErr.{SynthErr}
use Rattle.synth_core.specs.declared.error.SynthErr.TheVariants as synth_err
use Rattle.synth_core.specs.declared.fault.TextFault.{TextFault}
use Rattle.synth_core.specs.declared.fault.TextFault.TheVariants as text
use Rattle.synth_cmd.specs.declared.stop.Fault.{Fault}
use Rattle.synth_cmd.specs.declared.stop.Fault.TheVariants as fault
use Rattle.synth_cmd.specs.declared.stop.Refusal.{Refusal}
use Rattle.synth_cmd.specs.declared.stop.Refusal.TheVariants.{BitCount, TooManyTerms}
use Rattle.synth_cmd.specs.declared.stop.Stop.{Stop}
use Rattle.synth_cmd.specs.declared.stop.Stop.TheVariants as stop
use Rattle.synth_cmd.specs.declared.stop.Unmade.{Unmade}
use Rattle.synth_cmd.specs.declared.stop.Unmade.TheVariants.{Refused, Memory}

-- nothing is made
abbrev pub of_unmade : Unmade → Stop
of_unmade (Refused refusal) = stop.Refused refusal
of_unmade Memory = stop.Memory

-- a source that gives no network, by what tells a fault of its text
abbrev pub of_synth : (ℕ → TextFault → Refusal) → SynthErr → Unmade
of_synth tells (synth_err.Pla line what) = Refused (tells line (text.Pla what))
of_synth tells (synth_err.Blif line what) = Refused (tells line (text.Blif what))
of_synth tells (synth_err.BitCount given wanted) = Refused (BitCount given wanted)
of_synth tells (synth_err.TooManyTerms output) = Refused (TooManyTerms output)
of_synth tells synth_err.Memory = Memory

-- texts that give no report, by what tells a fault of each, and that the names differ
abbrev pub of_pair : (net vectors : ℕ → Fault → Refusal) → (names : Refusal) → PairErr → Unmade
of_pair net vectors names (pair_err.Blif line what) = Refused (net line (fault.Source (text.Blif what)))
of_pair net vectors names (pair_err.Vector line what) = Refused (vectors line (fault.Vectors what))
of_pair net vectors names pair_err.NamesDiffer = Refused names
of_pair net vectors names pair_err.Memory = Memory
