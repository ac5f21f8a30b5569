-- What is a name.
use Rattle.std.specs.Prelude.{◌==◌, ℕ, ◌-◌, Bool, not, ◌&&◌, nat_le, List, length, slice_index}
use Rattle.std.specs.List.{list_all}
use Rattle.ae_base.specs.declared.limits.TheConstants.{NAME_BYTES, SOURCE_NAME_BYTES}

-- a byte from 33 on that is no '#'
abbrev pub is_allowed : ℕ → Bool
is_allowed b = nat_le 33 b && not (b == 35)

-- 1 to 511 bytes from 33 on without '#', the last of which is not a backslash
abbrev pub is_name : List ℕ → Bool
is_name bytes =
    not (length bytes == 0) && nat_le (length bytes) NAME_BYTES && not (slice_index bytes (length bytes - 1) == 92)
    && list_all is_allowed bytes

-- a name of at most 255 bytes
abbrev pub is_source_name : List ℕ → Bool
is_source_name bytes = is_name bytes && nat_le (length bytes) SOURCE_NAME_BYTES
