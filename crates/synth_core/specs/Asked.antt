-- What a synthesis is asked for, and which sources have too many terms for it.
use Rattle.std.specs.Prelude.{◌≡◌, ◌≢◌, ℕ, ◌≤◌, Ok, List, length}
use Rattle.ae_base.specs.Mask.{first}
use Rattle.ae_base.specs.Cube.{Signs}
use Rattle.ae_base.specs.Source.{Source}
use Rattle.ae_base.specs.Form.{features_of}
use Rattle.expansion.specs.Functions.{AreExpansions}
use Rattle.expansion.specs.Terms.{Terms, cost, PassesAt}
use Rattle.synth_core.specs.Says.{source_says}
use Rattle.synth_core.specs.declared.settings.Choice.{Choice}
use Rattle.synth_core.specs.declared.settings.Choice.TheVariants.{Positive, Search, Given}
use Rattle.synth_core.specs.declared.settings.Settings.{Settings}
use Rattle.ae_base.specs.declared.form.Form.{Form}

-- each of n inputs has its plain literal
abbrev pub all_plain : ℕ → Signs
all_plain n = record { n = n; plain = first n }

-- the polarity of n inputs at which terms are counted: the one that is handed, else that of all plain literals, where a search starts
abbrev pub polarity_of : Choice → ℕ → Signs
polarity_of Positive n = all_plain n
polarity_of Search n = all_plain n
polarity_of (Given p) n = p

-- the greatest number of terms of all outputs
abbrev pub terms_limit : Form → ℕ
terms_limit form = (features_of form).most_terms

-- The bytes say this source, and these are the expansions of its outputs at the polarity at which terms are counted.
pub record IsExpanded (settings : Settings) (bytes : List ℕ) (s : Source) (e : Terms) : Type 0 where
  pub says : source_says settings.kind bytes ≡ Ok s
  pub expansions : AreExpansions s (polarity_of settings.polarity (length s.inputs)) e

-- The bytes say a source, and the polarity has another number of inputs.
pub record HasOtherCount (settings : Settings) (bytes : List ℕ) (given wanted : ℕ) : Type 0 where
  pub source : Source
  pub says : source_says settings.kind bytes ≡ Ok source
  pub wants : wanted ≡ length source.inputs
  pub gives : given ≡ (polarity_of settings.polarity wanted).n
  pub differ : given ≢ wanted

-- The bytes say a source whose expansions have no more terms than the form may have.
pub record IsWithin (settings : Settings) (bytes : List ℕ) : Type 0 where
  pub source : Source
  pub expansions : Terms
  pub expanded : IsExpanded settings bytes source expansions
  pub within : cost expansions ≤ terms_limit settings.form

-- The bytes say a source whose expansions have too many terms for the form, first at this output.
pub record HasTooMany (settings : Settings) (bytes : List ℕ) (output : ℕ) : Type 0 where
  pub source : Source
  pub expansions : Terms
  pub expanded : IsExpanded settings bytes source expansions
  pub passes : PassesAt (terms_limit settings.form) expansions.outs output
