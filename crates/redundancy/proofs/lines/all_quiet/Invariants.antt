use Rattle.std.proofs.Common.{◌≡◌}
use Rattle.redundancy.specs.Kept.{pin_kept}
use Rattle.redundancy.specs.Simulation.{each_below}
use Rattle.redundancy.proofs.lines.all_quiet.Given as goal

abbrev pub invariant-loop-k : goal.invariant-loop-k
invariant-loop-k l = l.all ≡ each_below l.k (λ k. (pin_kept l.fault l.bytes l.i l.gate k).quiet)
