use Rattle.std.proofs.Common.{refl, ap, ◌||◌, ◌∙◌, eqb}
use Rattle.ae_base.proofs.Truth.{or-false}
use Rattle.fault_sim.proofs.MarkWords.{no_marks}
use Rattle.fault_sim.proofs.words.one_lane.Goals as goal

pub returns : goal.returns
returns c l = c.word_of.ensures l ∙ c.mark.ensures.marked l ∙ ap (λ b. eqb l c.args.lane || b) (no_marks _ 8 refl l) ∙ or-false (eqb l c.args.lane)
