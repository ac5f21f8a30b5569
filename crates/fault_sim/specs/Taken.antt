-- The faults that one pass takes from a list. For private contracts alone.
use Rattle.std.specs.Prelude.{◌≡◌, ◌⊎◌, ℕ, ◌<◌, ◌≤◌, true, Option, Some, None, List, length, slice_get, slice_index}
use Rattle.ae_base.specs.Mask.{has}
use Rattle.ae_net.specs.declared.net.Fault.{Fault}
use Rattle.fault_sim.specs.Marks.{IsAmong}

-- The pass has the faults for which nothing is found from place i of the list on, and before place j, with their places.
pub record IsTaken (list : List Fault) (found : List (Option ℕ)) (ids : List ℕ) (faults : List Fault) (i j : ℕ) : Type 0 where
  pub as_many : length ids ≡ length faults
  pub within : (e : ℕ) → e < length ids → (i ≤ slice_index ids e) × (slice_index ids e < j)
  pub same : (e : ℕ) → e < length ids → slice_get list (slice_index ids e) ≡ slice_get faults e
  pub unfound : (e : ℕ) → e < length ids → slice_get found (slice_index ids e) ≡ Some None
  pub each : (k : ℕ) → i ≤ k → k < j → slice_get found k ≡ Some None → IsAmong ids k

-- The point stands at the places of those of the first m faults in whose lanes it is told, and all else is as before.
pub record AreWritten (told point : ℕ) (ids : List ℕ) (before after : List (Option ℕ)) (m : ℕ) : Type 0 where
  pub found : (e : ℕ) → e < m → has told e ≡ true → slice_get after (slice_index ids e) ≡ Some (Some point)
  pub others : (k : ℕ) → (slice_get after k ≡ slice_get before k) ⊎ ((e : ℕ) × (e < m) × (slice_index ids e ≡ k) × (has told e ≡ true))
