use Rattle.ae_outside.proofs.Changes.{get_written, still_holds, added-added}
use Rattle.ae_outside.proofs.laws.file_laws.Goals as goal

pub returns-clause-holds : goal.returns-clause-holds
returns-clause-holds c = get_written

pub returns-clause-others : goal.returns-clause-others
returns-clause-others c = still_holds

pub returns-clause-joined : goal.returns-clause-joined
returns-clause-joined c = added-added
