-- What expansions keep to, and what calls on them keep. For private contracts alone.
use Rattle.std.specs.Prelude.{◌≡◌, ◌<◌, true, length, All}
use Rattle.ae_base.specs.Cube.{IsSigns}
use Rattle.ae_base.specs.Mask.{first, inside}
use Rattle.ae_base.specs.Source.{Source}
use Rattle.ae_base.specs.Terms.{IsInOrder}
use Rattle.expansion.specs.declared.limits.TheConstants.{LISTS, TERMS}
use Rattle.expansion.specs.Functions.{AreExpansions}
use Rattle.expansion.specs.Terms.{Terms, cost}

-- Each list is in term order without repeats, over the inputs, and there are few enough of them.
pub record IsTerms (e : Terms) : Type 0 where
  pub signs : IsSigns e.polarity
  pub below : All (λ ts. All (λ t. inside t (first e.polarity.n) ≡ true) ts) e.outs
  pub order : All IsInOrder e.outs
  pub few_lists : length e.outs < LISTS
  pub few_terms : cost e < TERMS

-- the functions whose expansions the first holds are those whose expansions the second holds, at its own polarity
abbrev pub KeepsFunctions : Terms → Terms → Type 0
KeepsFunctions before after = (s : Source) → AreExpansions s before.polarity before → AreExpansions s after.polarity after
