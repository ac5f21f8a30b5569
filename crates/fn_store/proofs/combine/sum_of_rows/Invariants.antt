use Rattle.fn_store.proofs.Rows.{Rows}
use Rattle.fn_store.proofs.combine.sum_of_rows.Given as goal

abbrev pub invariant-loop-t : goal.invariant-loop-t
invariant-loop-t l = Rows l.a l.b l.t-index l.rows.items
