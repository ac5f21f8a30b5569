use Rattle.std.proofs.Common.{◌≡◌}
use Rattle.redundancy.specs.Kept.{port_kept}
use Rattle.redundancy.specs.Simulation.{each_below}
use Rattle.redundancy.specs.Worked.{is_untouched}
use Rattle.redundancy.proofs.lines.all_untouched.Given as goal

abbrev pub invariant-loop-o : goal.invariant-loop-o
invariant-loop-o l = l.all ≡ each_below l.o (λ o. is_untouched (port_kept l.fault l.bytes l.outputs o))
