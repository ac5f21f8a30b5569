use Rattle.std.proofs.Common.{◌||◌, refl, arith}
use Rattle.std.specs.Prelude.{slice_index}
use Rattle.fault_sim.proofs.MarkWords.{mark-changed}
use Rattle.fault_sim.proofs.WordLanes.{lane-with}
use Rattle.fault_sim.proofs.marks.mark.Goals as goal

pub returns-clause-marked : goal.returns-clause-marked
returns-clause-marked c j =
    let i = c.args.i in
    mark-changed c.args.marks.now _ _ _ i j (λ a b. a || b) c.requires (omega arith) (omega arith) (λ l lt. lane-with (slice_index c.args.marks.now _) _ l (omega arith)) (λ b. refl)
