use Rattle.redundancy.specs.Worked.{known_lines}
use Rattle.redundancy.proofs.Full.{leaf_tells}
use Rattle.redundancy.proofs.Simulated.{lines_local}
use Rattle.redundancy.proofs.laws.leaf_law.Goals as goal

pub returns : goal.returns
returns c = λ n fault d valid. leaf_tells n fault d valid (record {
  runs = λ h x. c.one_run.ensures.one n h x valid;
  lines = λ d. c.one_evaluation.ensures (known_lines fault d) n valid (lines_local fault d);
  sound = c.relation_law.ensures;
  known = c.relation_law-2.ensures;
})
