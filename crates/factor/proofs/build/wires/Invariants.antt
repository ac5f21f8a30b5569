use Rattle.std.proofs.Common.{◌≡◌}
use Rattle.std.specs.Prelude.{filter}
use Rattle.std.specs.List.{range_with_len}
use Rattle.factor.specs.Factored.{is_turned}
use Rattle.factor.proofs.build.wires.Given as goal

abbrev pub invariant-loop-j : goal.invariant-loop-j
invariant-loop-j l = l.turned ≡ filter (is_turned l.outs) (range_with_len 0 l.j)
