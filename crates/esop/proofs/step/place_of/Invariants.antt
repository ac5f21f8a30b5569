use Rattle.std.proofs.Common.{◌≡◌, ◌<◌, ℕ, true, get_or}
use Rattle.ae_base.specs.Cube.{Product}
use Rattle.esop.proofs.Placed.{precedes}
use Rattle.esop.proofs.step.place_of.Given as goal

abbrev pub invariant-loop-k : goal.invariant-loop-k
invariant-loop-k l = (i : ℕ) (d : Product) → i < l.k → precedes l.cube (get_or l.cubes i d) ≡ true
