use Rattle.std.proofs.Common.{◌≡◌, map, take}
use Rattle.grading.proofs.responses.points_of.Given as goal

abbrev pub invariant-loop-vector : goal.invariant-loop-vector
invariant-loop-vector l = l.points.items ≡ map (λ v. v.point) (take l.vector-index l.vectors)
