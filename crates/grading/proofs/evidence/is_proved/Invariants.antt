use Rattle.std.proofs.Common.{◌≡◌, take}
use Rattle.grading.proofs.Checked.{NoneProves}
use Rattle.grading.proofs.evidence.is_proved.Given as goal

abbrev pub invariant-loop-number : goal.invariant-loop-number
invariant-loop-number l = (l.scratch ≡ l.fn.scratch) × NoneProves l.net l.fault l.lines (take l.number-index l.number-items)
