use Rattle.std.proofs.Common.{◌≡◌, map, take}
use Rattle.esop.specs.Rewriting.{rewritten}
use Rattle.esop.proofs.rewriting.exorlink.Given as goal

abbrev pub invariant-loop-cubes : goal.invariant-loop-cubes
invariant-loop-cubes l = l.outs ≡ map rewritten (take l.cubes-index l.cubes-items)
