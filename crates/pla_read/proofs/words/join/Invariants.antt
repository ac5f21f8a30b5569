use Rattle.std.proofs.Common.{◌≡◌, take}
use Rattle.pla_read.specs.Words.{joined}
use Rattle.ae_lex.specs.Slices.{texts}
use Rattle.pla_read.proofs.words.join.Given as goal

abbrev pub invariant-loop-word : goal.invariant-loop-word
invariant-loop-word l = l.chars.items ≡ joined (texts (take l.word-index l.words))
