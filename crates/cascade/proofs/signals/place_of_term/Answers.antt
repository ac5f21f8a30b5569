use Rattle.cascade.proofs.Ordered.{found_by_search, missed_by_search}
use Rattle.cascade.proofs.signals.place_of_term.Goals as goal

pub returns-in-Ok-clause-place : goal.returns-in-Ok-clause-place
returns-in-Ok-clause-place c = found_by_search c.args.list.now c.args.t c.in-Ok.i c.requires c.in-Ok.ensures.bound c.in-Ok.ensures.position

pub returns-in-Err-clause-place : goal.returns-in-Err-clause-place
returns-in-Err-clause-place c = missed_by_search c.args.list.now c.args.t c.in-Err.field-0 c.requires c.in-Err.ensures.position
