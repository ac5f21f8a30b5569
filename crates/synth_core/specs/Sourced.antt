-- A source as it is read. For private contracts alone.
use Rattle.std.specs.Prelude.{◌≡◌, ℕ, ◌≤◌, Ok, List, length, All}
use Rattle.ae_base.specs.Cube.{Signs}
use Rattle.ae_base.specs.Source.{Source, on_set}
use Rattle.ae_base.specs.declared.limits.TheConstants.{SOURCE_LINES}
use Rattle.ae_net.specs.Names.{Names}
use Rattle.fn_store.specs.Functions.{Functions, IsLive}
use Rattle.net_fn.specs.Refs.{ShowEach}
use Rattle.fn_store.specs.declared.store.FnRef.{FnRef}
use Rattle.synth_core.specs.Asked.{polarity_of}
use Rattle.synth_core.specs.Made.{names_of}
use Rattle.synth_core.specs.Says.{source_says}
use Rattle.synth_core.specs.declared.settings.Settings.{Settings}

-- names, what a store of functions shows, and references of it
pub record Parts : Type 0 where
  pub names : Names
  pub functions : Functions
  pub outputs : List FnRef

abbrev pub parts : Names → Functions → List FnRef → Parts
parts names functions outputs = record { names = names; functions = functions; outputs = outputs }

-- The names are those of the source, and the references show its outputs' functions, in a store at a polarity of its inputs.
pub record IsSourced (s : Source) (p : Signs) (r : Parts) : Type 0 where
  pub names : r.names ≡ names_of s
  pub polarity : r.functions.polarity ≡ p
  pub inputs : p.n ≡ length s.inputs
  pub count : length r.outputs ≡ length s.outputs
  pub shows : ShowEach r.functions r.outputs (on_set s)

-- The references are live, one for each output's name, in a store of as many inputs as there are names, and they are few.
pub record IsWhole (r : Parts) : Type 0 where
  pub inputs : r.functions.polarity.n ≡ length r.names.inputs
  pub count : length r.outputs ≡ length r.names.outputs
  pub live : All (IsLive r.functions) r.outputs
  pub few : length r.outputs ≤ SOURCE_LINES

-- The bytes say a source, and these are its names and its outputs' functions at the polarity that is asked for.
pub record SaysSourced (settings : Settings) (bytes : List ℕ) (r : Parts) : Type 0 where
  pub source : Source
  pub says : source_says settings.kind bytes ≡ Ok source
  pub is : IsSourced source (polarity_of settings.polarity (length source.inputs)) r
