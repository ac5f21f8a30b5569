use Rattle.std.proofs.Common.{◌≡◌, take}
use Rattle.std.specs.List.{concat}
use Rattle.ae_lex.specs.Slices.{texts}
use Rattle.blif_read.proofs.statement.joined.Given as goal

abbrev pub invariant-loop-word : goal.invariant-loop-word
invariant-loop-word l = l.chars.items ≡ concat (texts (take l.word-index l.words))
