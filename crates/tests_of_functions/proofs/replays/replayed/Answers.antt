use Rattle.tests_of_functions.proofs.Ops.{results_live}
use Rattle.tests_of_functions.proofs.replays.replayed.Goals as goal

pub terms_of_each-requires : goal.terms_of_each-requires
terms_of_each-requires g c = rw c.deref.ensures.value (results_live (g.S.FnStore.functions c.replay.new.store) c.args.list.now c.in_ok-refs.refs.items c.in_ok-refs.ensures.results)
