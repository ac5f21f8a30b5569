use Rattle.ae_base.specs.Source.{on_set}
use Rattle.ae_net.specs.NetSource.{specified_by}
use Rattle.net_fn.proofs.References.{Shown}
use Rattle.net_fn.proofs.sources.specified_values.Given as goal

abbrev pub invariant-loop-k : goal.invariant-loop-k
invariant-loop-k g l = Shown (g.S.FnStore.functions l.fn.store) (g.S.FnStore.functions l.store) l.refs.items (on_set (specified_by l.source)) l.k
