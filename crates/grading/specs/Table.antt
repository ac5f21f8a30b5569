-- Lines of undetectable faults by the names in their places. For private contracts alone.
use Rattle.std.specs.Prelude.{◌≡◌, ◌<◌, ◌++◌, ◌∷◌, ℕ, List, [], Contains, Some, bytes_eq, if◌then◌else◌, length, slice_get}
use Rattle.std.specs.Option.{unwrap_or}
use Rattle.indexmap.specs.IndexMap.{get}
use Rattle.grading.specs.declared.table.Numbers.{Numbers}
use Rattle.vec_text.specs.declared.file.Idle.{Idle}
use Rattle.vec_text.specs.declared.file.PlaceName.{PlaceName}
use Rattle.vec_text.specs.declared.file.PlaceName.TheVariants.{Stem, Pin, Port}

-- the name in a place, of a signal, a gate or a port
abbrev pub name_in : PlaceName → List ℕ
name_in (Stem name) = name
name_in (Pin name k) = name
name_in (Port name) = name

-- the numbers under a name
abbrev pub numbers_of : Numbers → List ℕ → List ℕ
numbers_of numbers name = unwrap_or (get bytes_eq numbers.by_name name) []

-- one more number is under the name, and no other name has another
abbrev pub IsAdded : List ℕ → ℕ → (old new : Numbers) → Type 0
IsAdded name number old new =
    (other : List ℕ) → numbers_of new other ≡ (if bytes_eq name other then numbers_of old other ++ number ∷ [] else numbers_of old other)

-- Each number under a name is one of a line, and so many first lines are under the names in their places.
pub record AreListed (lines : List Idle) (count : ℕ) (numbers : Numbers) : Type 0 where
  pub within : (name : List ℕ) (i : ℕ) → Contains (numbers_of numbers name) i → i < length lines
  pub all : (i : ℕ) (line : Idle) → i < count → slice_get lines i ≡ Some line → Contains (numbers_of numbers (name_in line.place)) i

-- The numbers are of lines, and those of all lines whose places have the name are among them.
pub record HaveName (lines : List Idle) (name : List ℕ) (numbers : List ℕ) : Type 0 where
  pub within : (i : ℕ) → Contains numbers i → i < length lines
  pub all : (i : ℕ) (line : Idle) → slice_get lines i ≡ Some line → name_in line.place ≡ name → Contains numbers i
