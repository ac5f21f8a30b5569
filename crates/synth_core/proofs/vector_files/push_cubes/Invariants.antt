use Rattle.std.proofs.Common.{◌≡◌, ◌++◌, map, take}
use Rattle.synth_core.proofs.vector_files.push_cubes.Given as goal

abbrev pub invariant-loop-cube : goal.invariant-loop-cube
invariant-loop-cube l = l.lines ≡ l.fn.lines ++ map (λ c. record { output = l.output; cube = c }) (take l.cube-index l.cubes)
