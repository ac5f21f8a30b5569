-- Lists of references, and the functions that they show.
use Rattle.std.specs.Prelude.{◌≡◌, ℕ, Bool, Some, List, slice_get}
use Rattle.ae_base.specs.Mask.{Set, where_below}
use Rattle.fn_store.specs.Functions.{Functions, IsLive, Shows}
use Rattle.fn_store.specs.declared.store.FnRef.{FnRef}

-- each reference is live
pub record AreLive (s : Functions) (refs : List FnRef) : Type 0 where
  pub each : (k : ℕ) (r : FnRef) → slice_get refs k ≡ Some r → IsLive s r

-- reference k shows function k
pub record ShowEach (s : Functions) (refs : List FnRef) (fs : ℕ → Set → Bool) : Type 0 where
  pub each : (k : ℕ) (r : FnRef) → slice_get refs k ≡ Some r → Shows s r (fs k)

-- the functions below n that are 1 at the point
abbrev pub ones_at : ℕ → (ℕ → Set → Bool) → Set → Set
ones_at n fs x = where_below n (λ k. fs k x)
