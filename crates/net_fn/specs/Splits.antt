-- Lists of terms, split at an input. For private contracts alone.
use Rattle.std.specs.Prelude.{◌≡◌, ℕ, ◌<◌, ◌≤◌, true, not, List, map, filter, All}
use Rattle.ae_base.specs.Mask.{Set, has, without}

-- the terms that lack input j
abbrev pub lacking : ℕ → List Set → List Set
lacking j ts = filter (λ t. not (has t j)) ts

-- the terms that hold input j, without it
abbrev pub holding : ℕ → List Set → List Set
holding j ts = map (λ t. without t j) (filter (λ t. has t j) ts)

-- each member is from `from` on and below n
abbrev pub IsBetween : ℕ → ℕ → Set → Type 0
IsBetween from n t = (k : ℕ) → has t k ≡ true → (from ≤ k) × (k < n)

-- the terms hold inputs from `from` on and below n alone
pub record AreBetween (from n : ℕ) (ts : List Set) : Type 0 where
  pub each : All (IsBetween from n) ts
