use Rattle.std.proofs.Common.{◌≡◌}
use Rattle.ae_cover.specs.LeastClash.{is_mark, marked}
use Rattle.ae_cover.proofs.clash.outputs_with.Given as goal

abbrev pub invariant-loop-output : goal.invariant-loop-output
invariant-loop-output l = l.found ≡ marked (is_mark l.mark) l.output l.row
