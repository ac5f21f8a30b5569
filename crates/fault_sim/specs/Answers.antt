-- What a fault simulation answers (the single stuck-at model).
use Rattle.std.specs.Prelude.{ℕ, ◌<◌, Option, List, length, slice_index}
use Rattle.std.specs.Option.{MatchOption}
use Rattle.ae_base.specs.Mask.{Set}
use Rattle.ae_net.specs.declared.net.Fault.{Fault}
use Rattle.ae_net.specs.Detects.{Detects}
use Rattle.ae_net.specs.Network.{Network}

-- no vector of the list detects the fault
abbrev pub IsMissed : Network → List Set → Fault → Type 0
IsMissed n points fault = (k : ℕ) → k < length points → ¬ Detects n fault (slice_index points k)

-- Vector i of the list detects the fault, and no earlier one does.
pub record IsFirst (n : Network) (points : List Set) (fault : Fault) (i : ℕ) : Type 0 where
  pub is_place : i < length points
  pub detects : Detects n fault (slice_index points i)
  pub earlier : (k : ℕ) → k < i → ¬ Detects n fault (slice_index points k)

-- the place of the first vector of the list that detects the fault, or none where no vector of the list does
abbrev pub IsFirstTelling : Network → List Set → Fault → Option ℕ → Type 0
IsFirstTelling n points fault found = MatchOption found (IsMissed n points fault) (IsFirst n points fault)
