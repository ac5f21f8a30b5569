use Rattle.std.proofs.Common.{map, take}
use Rattle.factor.specs.Factored.{AreSums}
use Rattle.factor.specs.Seen.{seen}
use Rattle.factor.proofs.build.sums.Given as goal

abbrev pub invariant-loop-cubes : goal.invariant-loop-cubes
invariant-loop-cubes l = AreSums (take l.cubes-index l.outs) (map seen l.sums.items)
