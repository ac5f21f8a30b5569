-- What the files, the advisors and the report tell and count at a moment.
use Rattle.std.specs.Prelude.{◌≡◌, ◌≤◌, ℕ, List, [], Option, Contains}
use Rattle.ae_outside.specs.Counts.{Tally, count}
use Rattle.ae_outside.specs.Files.{Shelf}
use Rattle.polarity.specs.Search.{Advised}

pub record World : Type 0 where
  pub held : Option Shelf
  pub reads : Tally
  pub writes : Tally
  pub advisors : List Advised

abbrev pub world_of : {F : Type 0} → (F → Option Shelf) → (F → Tally) → (F → Tally) → F → List Advised → World
world_of held reads writes files advisors = record { held = held files; reads = reads files; writes = writes files; advisors = advisors }

pub record Outside : Type 0 where
  pub world : World
  pub taken : Option (List ℕ)
  pub faults : ℕ

abbrev pub outside : World → Option (List ℕ) → ℕ → Outside
outside world taken faults = record { world = world; taken = taken; faults = faults }

-- no number falls, only those of these names may rise, and where there are none all stay
pub record CountsAmong (names : List (List ℕ)) (before now : Tally) : Type 0 where
  pub later : (q : List ℕ) → count before q ≤ count now q
  pub others : (q : List ℕ) → ¬ (Contains names q) → count now q ≡ count before q
  pub none : names ≡ [] → now ≡ before
