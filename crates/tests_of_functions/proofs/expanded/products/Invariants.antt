use Rattle.std.specs.Prelude.{All}
use Rattle.ae_base.specs.Cube.{IsOver}
use Rattle.tests_of_functions.proofs.expanded.products.Given as goal

abbrev pub invariant-loop-row : goal.invariant-loop-row
invariant-loop-row l = All (λ c. IsOver l.n c) l.cubes.items
