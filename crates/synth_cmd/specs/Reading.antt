-- Which files a command reads, in order, each with its reader, and which it writes; what they held, and the first fault of their texts.
use Rattle.std.specs.Prelude.{◌≡◌, ◌⊎◌, ◌≤◌, ◌<◌, ℕ, List, [], ◌∷◌, Option, Some, None, Result, Ok, Err, IfSome, length, map}
use Rattle.std.specs.List.{AllZip}
use Rattle.ae_base.specs.declared.limits.TheConstants.{TEXT_BYTES}
use Rattle.ae_outside.specs.Files.{Shelf, bytes_of}
use Rattle.blif_read.specs.Says.{blif_says}
use Rattle.blif_read.specs.declared.fault.NetLimits.TheVariants.{Written}
use Rattle.synth_core.specs.Says.{source_says}
use Rattle.synth_core.specs.declared.fault.TextFault.TheVariants as text
use Rattle.synth_core.specs.declared.settings.SourceKind.{SourceKind}
use Rattle.synth_cmd.specs.Asked.{Asked, Origin}
use Rattle.synth_cmd.specs.Asked.Asked.{Refused, Synth, Grade}
use Rattle.synth_cmd.specs.Asked.Origin.{File, Demo}
use Rattle.synth_cmd.specs.Headline.{Holds}
use Rattle.synth_cmd.specs.declared.stop.Fault.{Fault}
use Rattle.synth_cmd.specs.declared.stop.Fault.TheVariants as fault
use Rattle.vec_text.specs.Says.{vec_says}

-- ---- the files of a command

-- how the text of a file is read
pub data Reader : Type 0 where
  Source : SourceKind → Reader
  Netlist : Reader
  Vectors : Reader

abbrev pub reads_of : Asked → List (List ℕ × Reader)
reads_of Refused = []
reads_of (Synth settings (File name) net vectors) = (name, Source settings.kind) ∷ []
reads_of (Synth settings (Demo number) net vectors) = []
reads_of (Grade mode net vectors) = (net, Netlist) ∷ (vectors, Vectors) ∷ []

abbrev pub names_read : Asked → List (List ℕ)
names_read asked = map (λ read. read.0) (reads_of asked)

abbrev pub names_written : Asked → List (List ℕ)
names_written Refused = []
names_written (Synth settings source net vectors) = net ∷ vectors ∷ []
names_written (Grade mode net vectors) = []

-- ---- what they held

-- The name holds these bytes, no more than a text may have.
pub record HoldsText (held : Option Shelf) (name bytes : List ℕ) : Type 0 where
  pub is_held : Holds held name bytes
  pub short : length bytes ≤ TEXT_BYTES

abbrev pub HoldTexts : Option Shelf → (names texts : List (List ℕ)) → Type 0
HoldTexts held names texts = AllZip (HoldsText held) names texts

-- They held these texts, and can have held no others: the files tell what they held.
pub record HoldOnly (held : Option Shelf) (names texts : List (List ℕ)) : Type 0 where
  pub hold : HoldTexts held names texts
  pub only : (others : List (List ℕ)) → HoldTexts held names others → others ≡ texts

-- files that are read in order are read up to this name: each before it held a text
abbrev pub ComesTo : Option Shelf → (names : List (List ℕ)) → (name : List ℕ) → Type 0
ComesTo held [] name = ⊥
ComesTo held (file ∷ files) name = (name ≡ file) ⊎ (((text : List ℕ) × HoldsText held file text) × ComesTo held files name)

-- the name holds more than a text may have, where the files tell what they hold
abbrev pub IsLong : Option Shelf → (name : List ℕ) → Type 0
IsLong held name = IfSome held (λ m. TEXT_BYTES < length (bytes_of m name))

-- ---- what is wrong with their texts

abbrev pub fault_as : {T F : Type 0} → (F → Fault) → Result T (ℕ × F) → Option (ℕ × Fault)
fault_as fault (Ok _) = None
fault_as fault (Err e) = Some (e.0, fault e.1)

-- the first fault of a text by its reader, with its line
abbrev pub first_fault : Reader → List ℕ → Option (ℕ × Fault)
first_fault (Source kind) bytes = fault_as (λ f. fault.Source f) (source_says kind bytes)
first_fault Netlist bytes = fault_as (λ f. fault.Source (text.Blif f)) (blif_says Written bytes)
first_fault Vectors bytes = fault_as (λ f. fault.Vectors f) (vec_says bytes)

-- this is the first fault of the first of the texts that has one, which is that of this name
abbrev pub IsFaulty : List (List ℕ × Reader) → (texts : List (List ℕ)) → (name : List ℕ) → (line : ℕ) → Fault → Type 0
IsFaulty [] texts name line what = ⊥
IsFaulty (read ∷ reads) [] name line what = ⊥
IsFaulty (read ∷ reads) (bytes ∷ texts) name line what =
    ((name ≡ read.0) × (first_fault read.1 bytes ≡ Some (line, what))) ⊎ ((first_fault read.1 bytes ≡ None) × IsFaulty reads texts name line what)
