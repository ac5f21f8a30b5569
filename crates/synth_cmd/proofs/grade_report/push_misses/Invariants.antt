use Rattle.std.proofs.Common.{◌≡◌, ◌++◌, take, map}
use Rattle.ae_base.specs.Text.{text_of}
use Rattle.synth_cmd.specs.Lines.{miss_line}
use Rattle.synth_cmd.proofs.grade_report.push_misses.Given as goal

abbrev pub invariant-loop-fault : goal.invariant-loop-fault
invariant-loop-fault l = l.out.items ≡ l.fn.out.items ++ text_of (map miss_line (take l.fault-index l.missed))
