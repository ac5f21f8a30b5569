use Rattle.synth_cmd.proofs.OneEnd.{no_count}
use Rattle.synth_cmd.proofs.Statuses.{demo_ends, grade_allowed, never_short}
use Rattle.synth_cmd.proofs.laws.status_law.Goals as goal

pub returns-clause-synth : goal.returns-clause-synth
returns-clause-synth c settings source net vectors old new s ends = never_short settings source net vectors old new s ends.ending

pub returns-clause-demo : goal.returns-clause-demo
returns-clause-demo c settings number net vectors old new s ends = demo_ends settings number net vectors old new s ends.ending

pub returns-clause-grade : goal.returns-clause-grade
returns-clause-grade c mode net vectors old new s ends = grade_allowed mode net vectors old new s ends.ending

pub returns-clause-quiet : goal.returns-clause-quiet
returns-clause-quiet c words old new s reported ends = no_count words old new s reported ends.ending
