use Rattle.fn_store.specs.Functions.{IsLive, Keeps}
use Rattle.tests_of_functions.proofs.functions.sum.Given as goal

abbrev pub invariant-loop-term : goal.invariant-loop-term
invariant-loop-term g l = IsLive (g.S.FnStore.functions l.store) l.sum × Keeps (g.S.FnStore.functions l.fn.store) (g.S.FnStore.functions l.store)
