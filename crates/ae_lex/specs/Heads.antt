-- A line is a list of words, of which the first says what the line is.
use Rattle.std.specs.Prelude.{ℕ, ◌==◌, Bool, not, List, [], map, drop, filter, Option, bytes_eq, slice_get, slice_index, slice_index_or}

abbrev pub Word : Type 0
Word = List ℕ

-- the word at a place, from 0 on; past the end it has no bytes
abbrev pub word : List Word → ℕ → Word
word words k = slice_index_or words k []

-- the line begins with this word
abbrev pub heads : Word → List Word → Bool
heads head line = bytes_eq (word line 0) head

-- a line whose first word begins with '.' is a statement with the words after it, and any other is a row
abbrev pub is_row : List Word → Bool
is_row line = not (slice_index (word line 0) 0 == 46)

-- the words after a first word, in each line that begins with it
abbrev pub each_after : Word → List (List Word) → List (List Word)
each_after head lines = map (drop 1) (filter (heads head) lines)

-- those in the first such line
abbrev pub after : Word → List (List Word) → Option (List Word)
after head lines = slice_get (each_after head lines) 0
