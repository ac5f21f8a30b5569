use Rattle.fn_store.specs.Functions.{Keeps}
use Rattle.tests_of_functions.proofs.functions.are_functions.Given as goal

abbrev pub invariant-loop-f : goal.invariant-loop-f
invariant-loop-f g l = Keeps (g.S.FnStore.functions l.fn.store) (g.S.FnStore.functions l.store)
