use Rattle.std.proofs.Common.{take}
use Rattle.std.specs.Prelude.{All}
use Rattle.std.specs.List.{AllZip}
use Rattle.named_faults.specs.Lines.{IsLineOf}
use Rattle.vec_text.specs.VectorFile.{IsIdle}
use Rattle.named_faults.proofs.lines.lines_of.Given as goal

abbrev pub invariant-loop-fault : goal.invariant-loop-fault
invariant-loop-fault l = record {
  lines : AllZip (IsLineOf l.net) (take l.fault-index l.faults) l.lines;
  valid : All IsIdle l.lines;
}
