-- For private contracts alone: the lines that are left of a text, and the word at a place.
use Rattle.std.specs.Prelude.{ℕ, zero, suc, ◌+◌, ◌-◌, List, [], ◌∷◌, length, drop}
use Rattle.ae_lex.specs.declared.scan.Place.{Place}
use Rattle.ae_lex.specs.declared.text.Style.{Style}
use Rattle.ae_lex.specs.declared.text.Span.{Span}
use Rattle.ae_lex.specs.declared.text.Line.{Line}
use Rattle.ae_lex.specs.Lines.{physical, joined}

-- the joined lines from a place on, where a physical line with that number starts
abbrev pub lines_from : Style → Place → List ℕ → List Line
lines_from style place bytes = joined style place.number (physical place.at (drop place.at bytes))

-- the number of the last physical line
abbrev pub last_from : Place → List ℕ → ℕ
last_from place bytes = place.number + length (physical place.at (drop place.at bytes)) - 1

-- the word of so many bytes at a place, where there are any
abbrev pub front_word : ℕ → ℕ → List Span
front_word place zero = []
front_word place (suc n) = record { start = place; «end» = place + suc n } ∷ []
