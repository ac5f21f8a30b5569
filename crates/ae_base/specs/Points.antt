-- Points with one input set or changed.
use Rattle.std.specs.Prelude.{ℕ, Bool, if◌then◌else◌}
use Rattle.ae_base.specs.Mask.{Set, empty, with, without, xor}

-- the point with input j at v
abbrev pub put : ℕ → Bool → Set → Set
put j v x = if v then with x j else without x j

-- the point with input j the other way
abbrev pub flipped : ℕ → Set → Set
flipped j x = xor x (with empty j)
