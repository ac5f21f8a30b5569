use Rattle.std.proofs.Common.{◌≡◌, ℕ, Option, List, [], drop, take}
use Rattle.ae_lex.specs.First.{first_fault}
use Rattle.ae_lex.specs.Reads.{words_of}
use Rattle.blif_read.specs.Says.{Declared, faults}
use Rattle.ae_lex.specs.Words.{WordLine}
use Rattle.blif_read.specs.Seen as spec
use Rattle.blif_read.specs.declared.fault.NetLimits.{NetLimits}
use Rattle.blif_read.specs.declared.seen.Seen.{Seen}
use Rattle.blif_read.proofs.read.read_lines.Given as goal

-- what is seen is what the lines so far say, and the first fault of the others after them is the first fault of all
pub record AreSeen (limits : NetLimits) (model : Option Declared) (lines : List WordLine) (k : ℕ) (seen : Seen) : Type 0 where
  pub said : seen ≡ spec.seen model (words_of (take k lines))
  pub rest : first_fault (faults limits model) (words_of (take k lines)) (drop k lines) ≡ first_fault (faults limits model) [] lines

abbrev pub invariant-loop-line : goal.invariant-loop-line
invariant-loop-line l = (model : Option Declared) → l.fn.seen ≡ spec.seen model [] → AreSeen l.limits model l.lines l.line-index l.seen
