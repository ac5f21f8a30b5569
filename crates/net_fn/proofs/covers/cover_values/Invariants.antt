use Rattle.ae_cover.specs.Cover.{is_one, some_row}
use Rattle.net_fn.proofs.References.{Shown}
use Rattle.net_fn.proofs.covers.cover_values.Given as goal

abbrev pub invariant-loop-output : goal.invariant-loop-output
invariant-loop-output g l = Shown (g.S.FnStore.functions l.fn.store) (g.S.FnStore.functions l.store) l.refs.items (some_row is_one l.cover.rows) l.output
