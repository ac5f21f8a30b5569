use Rattle.test_gen.proofs.Pairs.{Agreed}
use Rattle.test_gen.proofs.difference.first_difference.Given as goal

abbrev pub invariant-loop-o : goal.invariant-loop-o
invariant-loop-o g l = Agreed (g.S.FnStore.functions l.fn.store) (g.S.FnStore.functions l.store) l.good l.bad l.o
