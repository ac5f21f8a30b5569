-- Words of private contracts alone: a round of settling.
use Rattle.std.specs.Prelude.{◌≡◌, ◌<◌, None}
use Rattle.ae_base.specs.Source.{Source}
use Rattle.expansion.specs.Functions.{AreExpansions}
use Rattle.expansion.specs.Kept.{KeepsFunctions}
use Rattle.expansion.specs.Terms.{Terms, cost}
use Rattle.polarity.specs.Settling.{first_cheaper, with_flip}

-- no input's flip costs less
abbrev pub NoneCheaper : Terms → Type 0
NoneCheaper e = (s : Source) → AreExpansions s e.polarity e → first_cheaper s e.polarity ≡ None

-- the expansions of the same functions after a round that flips an input
pub record IsRound (e flipped : Terms) : Type 0 where
  pub cheaper : cost flipped < cost e
  pub functions : KeepsFunctions e flipped
  pub polarity : (s : Source) → AreExpansions s e.polarity e → flipped.polarity ≡ with_flip e.polarity (first_cheaper s e.polarity)
