-- Lists of operations on functions, and the references that they give in a store.
use Rattle.std.specs.Prelude.{◌≡◌, ℕ, zero, suc, ◌+◌, ◌<◌, Bool, true, false, not, ◌&&◌, List, length, slice_get, slice_index_or, Some}
use Rattle.ae_base.specs.Mask.{Set, differ}
use Rattle.ae_base.specs.Cube.{Signs}
use Rattle.ae_base.specs.Terms.{literal, value}
use Rattle.fn_store.specs.Functions.{Functions, Shows}
use Rattle.fn_store.specs.declared.operations.Op.{Op}
use Rattle.fn_store.specs.declared.operations.Op.TheVariants.{Literal, Xor, And, Not}
use Rattle.fn_store.specs.declared.store.FnRef.{FnRef}

-- the literal is of an input below n, and each operand is a place below at
abbrev pub IsOp : ℕ → ℕ → Op → Type 0
IsOp n at (Literal j) = j < n
IsOp n at (Xor a b) = (a < at) × (b < at)
IsOp n at (And a b) = (a < at) × (b < at)
IsOp n at (Not a) = a < at

-- each operand is the place of something earlier
abbrev pub AreOps : ℕ → List Op → Type 0
AreOps n ops = (k : ℕ) (op : Op) → slice_get ops k ≡ Some op → IsOp n (k + 2) op

-- the operation on the functions of places
abbrev pub result_of : Signs → (ℕ → Set → Bool) → Op → Set → Bool
result_of p fs (Literal j) x = literal p j x
result_of p fs (Xor a b) x = differ (fs a x) (fs b x)
result_of p fs (And a b) x = fs a x && fs b x
result_of p fs (Not a) x = not (fs a x)

-- reference k
abbrev pub ref_at : List FnRef → ℕ → FnRef
ref_at refs k = slice_index_or refs k (record { at = 0 })

-- the function of a place: 0, 1, and then those of the references
abbrev pub function_at : Functions → List FnRef → ℕ → Set → Bool
function_at s refs zero x = false
function_at s refs (suc zero) x = true
function_at s refs (suc (suc k)) x = value s.polarity (s.terms (ref_at refs k).at) x

-- One reference for each operation, which shows the operation on the functions of its operands.
pub record AreResults (s : Functions) (ops : List Op) (refs : List FnRef) : Type 0 where
  pub count : length refs ≡ length ops
  pub each : (k : ℕ) (op : Op) → slice_get ops k ≡ Some op → Shows s (ref_at refs k) (result_of s.polarity (function_at s refs) op)

-- each reference shows the value of its terms
abbrev pub AllShown : Functions → List FnRef → Type 0
AllShown s refs = (k : ℕ) → k < length refs → Shows s (ref_at refs k) (value s.polarity (s.terms (ref_at refs k).at))
