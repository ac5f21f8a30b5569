-- What the calls of the host answer. For private contracts alone.
use Rattle.std.specs.Prelude.{ℕ, ◌||◌, if◌then◌else◌, nat_eq, nat_lt, Result, Ok, Err}
use Rattle.ae_outside.specs.declared.outside.FilesErr.{FilesErr}
use Rattle.ae_outside.specs.declared.outside.FilesErr.TheVariants.{Failed}

-- a call where the host gave this: an error is a failure
abbrev pub answer_of : {T E : Type 0} → Result T E → Result T FilesErr
answer_of (Ok x) = Ok x
answer_of (Err _) = Err Failed

-- a write of so many bytes where the host gave this: to take none of some is a failure too
abbrev pub took_of : {E : Type 0} → Result ℕ E → ℕ → Result ℕ FilesErr
took_of (Ok k) size = if nat_lt 0 k || nat_eq size 0 then Ok k else Err Failed
took_of (Err _) size = Err Failed
