-- The polarity of a synthesis: the one that is asked for, or one that a search chooses; and what becomes of the advisors.
use Rattle.std.specs.Prelude.{◌≡◌, ◌⊎◌, ℕ, List, length}
use Rattle.std.specs.List.{AllZip}
use Rattle.ae_base.specs.Cube.{Signs}
use Rattle.ae_base.specs.Source.{Source}
use Rattle.polarity.specs.Search.{Advised, IsAsked, IsChosen, Stands}
use Rattle.synth_core.specs.Asked.{IsWithin, all_plain}
use Rattle.synth_core.specs.declared.settings.Choice.{Choice}
use Rattle.synth_core.specs.declared.settings.Choice.TheVariants.{Positive, Search, Given}
use Rattle.synth_core.specs.declared.settings.Settings.{Settings}

-- Each advisor was asked until nothing was left and was told each cost, and the first cheapest one of the start and of the proposals
-- within the limit is settled.
pub record IsSearched (s : Source) (limit : ℕ) (start : Signs) (before after : List Advised) (p : Signs) : Type 0 where
  pub asked : AllZip (IsAsked s limit) before after
  pub chosen : IsChosen s start before after p

-- the polarity of a source, within a limit on terms, by what the advisors were before and are after
abbrev pub IsPolarity : Choice → ℕ → Source → (before after : List Advised) → Signs → Type 0
IsPolarity Positive limit s before after p = p ≡ all_plain (length s.inputs)
IsPolarity Search limit s before after p = IsSearched s limit (all_plain (length s.inputs)) before after p
IsPolarity (Given q) limit s before after p = p ≡ q

-- A search was asked for, and the source was these bytes, which are within the limit on terms. No more is left of any advisor than before,
-- and its log begins with the old one.
pub record SearchStands (settings : Settings) (Was : List ℕ → Type 0) (before after : List Advised) : Type 0 where
  pub asked : settings.polarity ≡ Search
  pub bytes : List ℕ
  pub was : Was bytes
  pub within : IsWithin settings bytes
  pub stand : AllZip Stands before after

-- Unless so, the advisors are as before.
abbrev pub AdvisorsStand : Settings → (List ℕ → Type 0) → (before after : List Advised) → Type 0
AdvisorsStand settings Was before after = (after ≡ before) ⊎ SearchStands settings Was before after
