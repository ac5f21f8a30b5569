use Rattle.fault_sim.proofs.MarkWords.{no_marks}
use Rattle.fault_sim.proofs.cone.marks_for.Goals as goal

pub returns-clause-unmarked : goal.returns-clause-unmarked
returns-clause-unmarked c = no_marks c.in_ok-vec.field-0.items _ (c.in_ok-vec.ensures.items_if_clones_equal (λ y e. e))
