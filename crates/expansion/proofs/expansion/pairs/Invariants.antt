use Rattle.std.proofs.Common.{◌≡◌, ◌+◌, drop, length}
use Rattle.std.specs.List.{sum_by}
use Rattle.expansion.proofs.expansion.pairs.Given as goal

abbrev pub invariant-loop-terms : goal.invariant-loop-terms
invariant-loop-terms l = l.sum + sum_by length (drop l.terms-index l.e.outs) ≡ sum_by length l.e.outs
