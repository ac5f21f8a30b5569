use Rattle.std.proofs.Common.{◌≡◌, ◌++◌, drop}
use Rattle.blif_read.specs.Says.{undefined_output}
use Rattle.blif_read.proofs.draft.check_outputs.Given as goal

abbrev pub invariant-loop-line : goal.invariant-loop-line
invariant-loop-line l = undefined_output (l.inputs ++ l.driven) (drop l.line-index l.lines) ≡ undefined_output (l.inputs ++ l.driven) l.lines
