use Rattle.ae_net.proofs.Runs.{truths_local, evaluation-of_run, run-of_evaluation}
use Rattle.ae_net.proofs.laws.run_law.Goals as goal

pub returns-clause-evaluation : goal.returns-clause-evaluation
returns-clause-evaluation c = evaluation-of_run

pub returns-clause-run : goal.returns-clause-run
returns-clause-run c = run-of_evaluation

pub returns-clause-local : goal.returns-clause-local
returns-clause-local c = truths_local
