use Rattle.net_fn.proofs.nets.turned.Goals as goal

pub returns-else-on-clause-shows : goal.returns-else-on-clause-shows
returns-else-on-clause-shows g c = rw c.if-on.false c.not.ensures.shows
