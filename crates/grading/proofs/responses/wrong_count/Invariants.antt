use Rattle.std.proofs.Common.{◌≡◌, ◌≤◌, take}
use Rattle.std.specs.List.{count_by}
use Rattle.grading.specs.Counts.{is_wrong}
use Rattle.grading.proofs.responses.wrong_count.Given as goal

abbrev pub invariant-loop-i : goal.invariant-loop-i
invariant-loop-i l = (l.wrong ≡ count_by (is_wrong l.net) (take l.i l.vectors)) × (l.wrong ≤ l.i)
