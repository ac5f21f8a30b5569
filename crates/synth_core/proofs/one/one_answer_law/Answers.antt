use Rattle.synth_core.proofs.OneAnswer.{one_made}
use Rattle.synth_core.proofs.Limits.{apart}
use Rattle.synth_core.proofs.one.one_answer_law.Goals as goal

pub returns-clause-one : goal.returns-clause-one
returns-clause-one c settings bytes before after a b x y = one_made c.one_run.ensures.only c.lead_law.ensures.only c.said_law.ensures c.evidence_law.ensures.only c.factored_law.ensures.only c.expansion_law.ensures.one c.choice_law.ensures settings bytes before after a b x y

pub returns-clause-apart : goal.returns-clause-apart
returns-clause-apart c settings bytes output within many = apart c.expansion_law.ensures.one settings bytes output within many
