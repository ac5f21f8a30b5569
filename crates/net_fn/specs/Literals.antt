-- The literals of one number in a product. For private contracts alone.
use Rattle.std.specs.Prelude.{ℕ, ◌&&◌, ◌||◌, Bool, not}
use Rattle.ae_base.specs.Mask.{has}
use Rattle.ae_base.specs.Cube.{Product}

-- the literals of number k in the product are 1 at a value
abbrev pub agrees : Product → ℕ → Bool → Bool
agrees c k v = (not (has c.pos k) || v) && (not (has c.neg k) || not v)
