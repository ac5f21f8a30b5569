-- Sets of numbers in words of 64. For private contracts alone.
use Rattle.std.specs.Prelude.{◌≡◌, ◌==◌, ℕ, ◌/◌, ◌%◌, ◌<◌, Bool, true, false, not, ◌&&◌, List, length, slice_index}
use Rattle.ae_base.specs.Mask.{has}

abbrev pub is_marked : List ℕ → ℕ → Bool
is_marked marks i = has (slice_index marks (i / 64)) (i % 64)

abbrev pub IsUnmarked : List ℕ → Type 0
IsUnmarked marks = (i : ℕ) → is_marked marks i ≡ false

abbrev pub IsAmong : List ℕ → ℕ → Type 0
IsAmong list i = (k : ℕ) × (k < length list) × (slice_index list k ≡ i)

-- Number i is the first that is marked, and after that is marked no more.
pub record IsFirstTaken (before after : List ℕ) (i : ℕ) : Type 0 where
  pub marked : is_marked before i ≡ true
  pub first : (j : ℕ) → j < i → is_marked before j ≡ false
  pub rest : (j : ℕ) → is_marked after j ≡ (not (j == i) && is_marked before j)
