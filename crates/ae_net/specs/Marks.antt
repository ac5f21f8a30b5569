-- Marks on numbers, as the search for the signals that are read keeps them. For private contracts alone.
use Rattle.std.specs.Prelude.{◌≡◌, ℕ, ◌<◌, Bool, false, ◌||◌, List, length, slice_index_or}

-- the mark of a number
abbrev pub mark_at : List Bool → ℕ → Bool
mark_at marks s = slice_index_or marks s false

-- the numbers that pass the test are marked, and no others than were before
pub record Marks (test : ℕ → Bool) (old new : List Bool) : Type 0 where
  pub len : length new ≡ length old
  pub each : (s : ℕ) → s < length old → mark_at new s ≡ (mark_at old s || test s)
