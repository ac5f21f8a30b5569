use Rattle.fn_store.proofs.Replayed.{same_expansions}
use Rattle.fn_store.proofs.operations.replay_law.Goals as goal

pub returns : goal.returns
returns c = same_expansions
