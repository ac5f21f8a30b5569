-- What the bytes of a source say.
use Rattle.std.specs.Prelude.{ℕ, Result, Ok, Err, List}
use Rattle.ae_base.specs.Source.{Source}
use Rattle.ae_cover.specs.Cover.{source_of}
use Rattle.ae_net.specs.NetSource.{specified_by}
use Rattle.blif_read.specs.Names as blif
use Rattle.blif_read.specs.SourceSays as blif_source
use Rattle.pla_read.specs.Faults.{fault_name}
use Rattle.pla_read.specs.Pla.{pla_says}
use Rattle.synth_core.specs.declared.fault.TextFault.{TextFault}
use Rattle.synth_core.specs.declared.fault.TextFault.TheVariants as text
use Rattle.synth_core.specs.declared.settings.SourceKind.{SourceKind}
use Rattle.synth_core.specs.declared.settings.SourceKind.TheVariants.{Pla, Blif}

-- what a reader's definition says, as a source or as a fault of a text with its line
abbrev pub said_as : {T F : Type 0} → (T → Source) → (F → TextFault) → Result T (ℕ × F) → Result Source (ℕ × TextFault)
said_as source fault (Ok t) = Ok (source t)
said_as source fault (Err e) = Err (e.0, fault e.1)

-- the source that bytes of a kind say, or their first fault with its line
abbrev pub source_says : SourceKind → List ℕ → Result Source (ℕ × TextFault)
source_says Pla bytes = said_as source_of (λ f. text.Pla f) (pla_says bytes)
source_says Blif bytes = said_as specified_by (λ f. text.Blif f) (blif_source.source_says bytes)

-- the name of a fault, as the report writes it
abbrev pub text_fault_name : TextFault → List ℕ
text_fault_name (text.Pla f) = fault_name f
text_fault_name (text.Blif f) = blif.fault_name f
