use Rattle.std.proofs.Common.{◌≡◌, map, take}
use Rattle.ae_lex.specs.Slices.{texts}
use Rattle.ae_lex.specs.Lines.{cut}
use Rattle.ae_lex.proofs.slices.words_of.Given as goal

abbrev pub invariant-loop-span : goal.invariant-loop-span
invariant-loop-span l = texts l.words.items ≡ map (cut l.bytes) (take l.span-index l.line.words)
