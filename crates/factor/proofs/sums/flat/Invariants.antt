use Rattle.std.proofs.Common.{◌≡◌, ◌-◌, drop, length}
use Rattle.std.specs.List.{list_any}
use Rattle.factor.specs.Literals.{is_empty}
use Rattle.factor.specs.Seen.{seen, with_cubes}
use Rattle.factor.specs.Sums.Summands.{end}
use Rattle.factor.proofs.sums.flat.Given as goal

abbrev pub invariant-loop-d : goal.invariant-loop-d
invariant-loop-d l = seen l.sum ≡ with_cubes (drop (length l.cubes - l.d) l.cubes) (end (list_any is_empty l.cubes))
