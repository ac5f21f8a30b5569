-- For private contracts alone: texts that are written line by line.
use Rattle.std.specs.Prelude.{◌≡◌, ℕ, suc, ◌<◌, true, List, [], ◌∷◌, length, All}
use Rattle.ae_base.specs.Plain.{is_plain}
use Rattle.ae_lex.specs.Words.{WordLine}

-- some words that are read as they are written
pub record IsPlainLine (ws : List (List ℕ)) : Type 0 where
  pub some : 0 < length ws
  pub each : All (λ word. is_plain word ≡ true) ws

-- lines of these words, numbered from a number on
abbrev pub numbered : ℕ → List (List (List ℕ)) → List WordLine
numbered number [] = []
numbered number (ws ∷ lines) = record { number = number; words = ws } ∷ numbered (suc number) lines
