-- The parts of missed faults while a grading goes on. For private contracts alone.
use Rattle.std.specs.Prelude.{◌≡◌, ◌⊎◌, ◌+◌, not, List, [], ◌∷◌, ◌++◌, filter, length, map}
use Rattle.ae_base.specs.Mask.{Set}
use Rattle.ae_net.specs.declared.net.Fault.{Fault}
use Rattle.ae_net.specs.Network.{Network}
use Rattle.grading.specs.Counts.{is_detected}
use Rattle.grading.specs.Grade.{IsProved}
use Rattle.grading.specs.declared.missed.Parts.{Parts}
use Rattle.named_faults.specs.Names.{named}
use Rattle.vec_text.specs.declared.file.Idle.{Idle}

-- the elements of a list of which something holds, and the others, both in the order of the list
pub data AreParted {X : Type 0} (P : X → Type 0) : (xs ones others : List X) → Type 0 where
  none : AreParted P [] [] []
  one : {x : X} {xs ones others : List X} → P x → AreParted P xs ones others → AreParted P (x ∷ xs) (x ∷ ones) others
  other : {x : X} {xs ones others : List X} → ¬ P x → AreParted P xs ones others → AreParted P (x ∷ xs) ones (x ∷ others)

-- one more fault is counted as proved, or named as one that is not
abbrev pub IsSorted : Network → List Idle → Fault → (old new : Parts) → Type 0
IsSorted n lines fault old new =
    (IsProved n lines fault × (new.proved ≡ old.proved + 1) × (new.unproved ≡ old.unproved))
    ⊎ ((¬ IsProved n lines fault) × (new.proved ≡ old.proved) × (new.unproved ≡ old.unproved ++ named n fault ∷ []))

-- the faults of the list that none of the points detects, parted
pub record ArePartedSoFar (n : Network) (lines : List Idle) (points : List Set) (list : List Fault) (parts : Parts) : Type 0 where
  pub proved : List Fault
  pub unproved : List Fault
  pub parted : AreParted (IsProved n lines) (filter (λ fault. not (is_detected n points fault)) list) proved unproved
  pub count : parts.proved ≡ length proved
  pub names : parts.unproved ≡ map (named n) unproved
