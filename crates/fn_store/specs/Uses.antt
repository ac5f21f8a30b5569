-- On which inputs a truth function depends. For private contracts alone.
use Rattle.std.specs.Prelude.{◌≢◌, ℕ, Bool}
use Rattle.ae_base.specs.Mask.{Set, with, without}
use Rattle.ae_base.specs.Terms.{IsPoint}

-- Two points of n inputs that differ in j alone have different values.
pub record DependsOn (n : ℕ) (f : Set → Bool) (j : ℕ) : Type 0 where
  pub point : Set
  pub is_point : IsPoint n point
  pub differs : f (with point j) ≢ f (without point j)
