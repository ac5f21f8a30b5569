-- What makers of expansions give and refuse. For private contracts alone.
use Rattle.std.specs.Prelude.{ℕ}
use Rattle.ae_base.specs.Cube.{Signs}
use Rattle.ae_base.specs.Source.{Source}
use Rattle.expansion.specs.Functions.{AreExpansions}
use Rattle.expansion.specs.Terms.{Terms, PassesAt}

-- The source's expansions at the polarity have more terms than the limit, and their running sum passes it first at this output.
pub record HasTooManyAt (s : Source) (limit : ℕ) (p : Signs) (output : ℕ) : Type 0 where
  pub expansions : Terms
  pub are_expansions : AreExpansions s p expansions
  pub passes : PassesAt limit expansions.outs output

-- what holds of each source whose expansions these are
abbrev pub OfEachSource : Terms → (Source → Type 0) → Type 0
OfEachSource e P = (s : Source) → AreExpansions s e.polarity e → P s
