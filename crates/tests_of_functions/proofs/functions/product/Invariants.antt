use Rattle.fn_store.specs.Functions.{IsLive, Keeps}
use Rattle.tests_of_functions.proofs.functions.product.Given as goal

abbrev pub invariant-loop-j : goal.invariant-loop-j
invariant-loop-j g l = IsLive (g.S.FnStore.functions l.store) l.all × Keeps (g.S.FnStore.functions l.fn.store) (g.S.FnStore.functions l.store)
