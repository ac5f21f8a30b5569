-- The lines of a text in words.
use Rattle.std.specs.Prelude.{ℕ, suc, ◌-◌, ◌==◌, Bool, false, not, ◌&&◌, ◌||◌, if◌then◌else◌, List, [], ◌∷◌, ◌++◌, length, filter, take, slice_index}
use Rattle.std.specs.List.{before_first, suffix_len, onto_first, slice_split}
use Rattle.ae_lex.specs.declared.text.Style.{Style}
use Rattle.ae_lex.specs.declared.text.Style.TheVariants.{Pla, Blif}

-- ---- physical lines and words

-- each byte 10 ends a physical line, and bytes after the last byte 10 are one too
abbrev pub physical_lines : List ℕ → List (List ℕ)
physical_lines [] = []
physical_lines (b ∷ bytes) = if b == 10 then [] ∷ physical_lines bytes else onto_first b (physical_lines bytes)

-- the number of the last physical line, and 0 where there is none
unfoldable pub last_line : List ℕ → ℕ
last_line bytes = length (physical_lines bytes)

-- a space, a tab or a carriage return
abbrev pub is_blank : ℕ → Bool
is_blank b = b == 32 || b == 9 || b == 13

-- the longest runs of bytes that are no blanks
abbrev pub words : List ℕ → List (List ℕ)
words text = filter (λ part. not (length part == 0)) (slice_split is_blank text)

-- ---- comments and joined lines

-- a line without its comment
abbrev pub uncommented : List ℕ → List ℕ
uncommented line = before_first (λ b. b == 35) line

-- a text without the blanks at its end
abbrev pub trimmed : List ℕ → List ℕ
trimmed text = take (length text - suffix_len is_blank text) text

-- the last byte is a backslash
abbrev pub ends_open : List ℕ → Bool
ends_open text = not (length text == 0) && slice_index text (length text - 1) == 92

-- the next physical line joins this one
abbrev pub joins_next : Style → List ℕ → Bool
joins_next Pla line = false
joins_next Blif line = ends_open (trimmed (uncommented line))

-- the part of a line that says something
abbrev pub said : Style → List ℕ → List ℕ
said Pla line = uncommented line
said Blif line = let text = trimmed (uncommented line) in if ends_open text then take (length text - 1) text else text

-- the words of a line, with the number of its first physical line
pub record WordLine : Type 0 where
  pub number : ℕ
  pub words : List (List ℕ)

-- words that stand before those of the line that joins them; on the last line nothing joins
abbrev pub before_next : ℕ → List (List ℕ) → List WordLine → List WordLine
before_next number words [] = record { number = number; words = words } ∷ []
before_next number words (line ∷ lines) = record { number = number; words = words ++ line.words } ∷ lines

-- the lines that physical lines make, numbered from a number on: where the next one joins a line, its words stand after that line's own
abbrev pub joined_lines : Style → ℕ → List (List ℕ) → List WordLine
joined_lines style number [] = []
joined_lines style number (line ∷ lines) =
    if joins_next style line then before_next number (words (said style line)) (joined_lines style (suc number) lines)
    else record { number = number; words = words (said style line) } ∷ joined_lines style (suc number) lines

abbrev pub says_something : WordLine → Bool
says_something line = not (length line.words == 0)

-- the lines that have words
unfoldable pub word_lines : Style → List ℕ → List WordLine
word_lines style bytes = filter says_something (joined_lines style 1 (physical_lines bytes))
