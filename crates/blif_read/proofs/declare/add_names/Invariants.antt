use Rattle.std.proofs.Common.{◌≡◌, ◌++◌, take, drop}
use Rattle.ae_lex.specs.First.{first_of}
use Rattle.ae_lex.specs.Slices.{texts}
use Rattle.blif_read.specs.Says.{declared_faults}
use Rattle.blif_read.proofs.declare.add_names.Given as goal

abbrev pub invariant-loop-word : goal.invariant-loop-word
invariant-loop-word l = record {
  names : l.names ≡ l.fn.names ++ texts (take l.word-index l.words);
  fault : first_of (declared_faults l.kind.limits l.kind.too_many l.others l.gates l.names (texts (drop l.word-index l.words))) ≡ first_of (declared_faults l.kind.limits l.kind.too_many l.others l.gates l.fn.names (texts l.words));
}
