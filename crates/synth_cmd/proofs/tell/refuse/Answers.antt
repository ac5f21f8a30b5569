use Rattle.synth_cmd.proofs.tell.refuse.Goals as goal

pub returns-in-Words-clause-told : goal.returns-in-Words-clause-told
returns-in-Words-clause-told g c = rw c.in-Words.is c.tell.ensures.told
