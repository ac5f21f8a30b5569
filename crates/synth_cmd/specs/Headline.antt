-- The headline of a call, by what the files hold before and after it.
use Rattle.std.specs.Prelude.{◌≡◌, ℕ, Ok, List, Option, Some, IfSome}
use Rattle.std.specs.FinMap.{get}
use Rattle.ae_base.specs.Source.{Source}
use Rattle.ae_outside.specs.Files.{Shelf}
use Rattle.demo_source.specs.Demo.{demo_text}
use Rattle.grading.specs.Grade.{IsSound}
use Rattle.grading.specs.declared.report.Mode.TheVariants as mode
use Rattle.synth_core.specs.Headline.{Headline}
use Rattle.synth_core.specs.Says.{source_says}
use Rattle.synth_core.specs.declared.settings.Settings.{Settings}
use Rattle.synth_cmd.specs.Asked.{Asked, Origin}
use Rattle.synth_cmd.specs.Asked.Asked.{Refused, Synth, Grade}
use Rattle.synth_cmd.specs.Asked.Origin.{File, Demo}

-- The name holds these bytes, where the files tell what they hold.
abbrev pub Holds : Option Shelf → List ℕ → List ℕ → Type 0
Holds held name bytes = IfSome held (λ m. get m name ≡ Some bytes)

-- A source was these bytes: those of a file, where the files tell what they held, or those of the demo of a number.
abbrev pub WasSource : Settings → Option Shelf → Origin → List ℕ → Type 0
WasSource settings held (File name) bytes = Holds held name bytes
WasSource settings held (Demo number) bytes = bytes ≡ demo_text number settings.form

-- The source was bytes that say a source, and NET and VEC hold bytes of which the headline speaks.
pub record Tested (settings : Settings) (Was : List ℕ → Type 0) (net vectors : List ℕ) (held : Option Shelf) : Type 0 where
  pub bytes : List ℕ
  pub was : Was bytes
  pub source : Source
  pub says : source_says settings.kind bytes ≡ Ok source
  pub net_bytes : List ℕ
  pub net_holds : Holds held net net_bytes
  pub vec_bytes : List ℕ
  pub vec_holds : Holds held vectors vec_bytes
  pub headline : Headline settings.form source net_bytes vec_bytes

-- NET and VEC held bytes of a pair whose responses are right, and whose vectors detect each fault that any point detects.
pub record Checked (net vectors : List ℕ) (held : Option Shelf) : Type 0 where
  pub net_bytes : List ℕ
  pub net_was : Holds held net net_bytes
  pub vec_bytes : List ℕ
  pub vectors_was : Holds held vectors vec_bytes
  pub sound : IsSound net_bytes vec_bytes

-- what stands where a command is done, by what was before and is now: of a grading the headline promises nothing
abbrev pub HasHeadline : Asked → (old new : Option Shelf) → Type 0
HasHeadline Refused old new = ⊥
HasHeadline (Synth settings source net vectors) old new = Tested settings (WasSource settings old source) net vectors new
HasHeadline (Grade mode.Grade net vectors) old new = Unit {0}
HasHeadline (Grade mode.Check net vectors) old new = Checked net vectors old
