use Rattle.std.proofs.Common.{◌≡◌, take}
use Rattle.ae_lex.specs.Slices.{texts}
use Rattle.ae_lex.proofs.slices.names_of.Given as goal

abbrev pub invariant-loop-word : goal.invariant-loop-word
invariant-loop-word l = l.names ≡ texts (take l.word-index l.words)
