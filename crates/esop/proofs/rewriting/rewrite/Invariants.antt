use Rattle.std.proofs.Common.{◌≡◌}
use Rattle.esop.specs.Rewriting.{rewritten}
use Rattle.esop.specs.Search.{IsOrdered}
use Rattle.esop.proofs.Steps.{measure}
use Rattle.esop.proofs.rewriting.rewrite.Given as goal

abbrev pub invariant-steps : goal.invariant-steps
invariant-steps l = (rewritten l.settled.items ≡ rewritten l.cubes) × IsOrdered l.settled.items

abbrev pub decreases-steps : goal.decreases-steps
decreases-steps l = measure l.settled.items
