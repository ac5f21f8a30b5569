-- A set in two halves, as `Mask` keeps it: the members below 128, and those from 128 on, 128 places lower.
use Rattle.std.specs.Prelude.{◌≡◌, ℕ, ◌+◌, ◌*◌, ◌/◌, ◌%◌, ◌^◌, ◌<◌}
use Rattle.std.proofs.Common.{arith}
use Rattle.ae_base.specs.Mask.{Set}

abbrev pub joined : ℕ → ℕ → Set
joined high low = high * 2 ^ 128 + low

abbrev pub low_of : Set → ℕ
low_of s = s % 2 ^ 128

abbrev pub high_of : Set → ℕ
high_of s = s / 2 ^ 128

pub low_of-joined : (high low : ℕ) → low < 2 ^ 128 → low_of (joined high low) ≡ low
low_of-joined high low h = omega arith

pub high_of-joined : (high low : ℕ) → low < 2 ^ 128 → high_of (joined high low) ≡ high
high_of-joined high low h = omega arith
