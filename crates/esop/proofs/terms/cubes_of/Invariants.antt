use Rattle.std.proofs.Common.{◌≡◌, ◌≤◌, length, map, drop}
use Rattle.esop.specs.Esop.{cube_of}
use Rattle.esop.specs.Order.{in_order}
use Rattle.esop.proofs.terms.cubes_of.Given as goal

abbrev pub invariant-loop-left : goal.invariant-loop-left
invariant-loop-left l = (l.left ≤ length l.terms) × (l.cubes.items ≡ in_order (map (cube_of l.polarity) (drop l.left l.terms)))

abbrev pub decreases-loop-left : goal.decreases-loop-left
decreases-loop-left l = l.left
