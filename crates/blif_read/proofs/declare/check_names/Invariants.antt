use Rattle.std.proofs.Common.{◌≡◌, drop}
use Rattle.ae_lex.specs.First.{first_of}
use Rattle.ae_lex.specs.Slices.{texts}
use Rattle.blif_read.specs.Says.{listed_faults}
use Rattle.blif_read.proofs.declare.check_names.Given as goal

abbrev pub invariant-loop-word : goal.invariant-loop-word
invariant-loop-word l = first_of (listed_faults l.limits l.names (texts (drop l.word-index l.words))) ≡ first_of (listed_faults l.limits l.names (texts l.words))
