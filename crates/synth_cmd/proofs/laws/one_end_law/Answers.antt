use Rattle.synth_cmd.proofs.OneEnd.{one_end}
use Rattle.synth_cmd.proofs.laws.one_end_law.Goals as goal

pub returns : goal.returns
returns c = one_end c.one_answer_law.ensures.one c.grade_law.ensures.one
