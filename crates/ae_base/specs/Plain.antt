-- For private contracts alone: words that are read as they are written.
use Rattle.std.specs.Prelude.{ℕ, ◌-◌, ◌==◌, Bool, not, ◌&&◌, List, length, slice_index}
use Rattle.std.specs.List.{list_all}
use Rattle.ae_base.specs.Name.{is_allowed}

-- it has bytes, none of them a blank or '#', and the last is no backslash
abbrev pub is_plain : List ℕ → Bool
is_plain word = not (length word == 0) && not (slice_index word (length word - 1) == 92) && list_all is_allowed word
