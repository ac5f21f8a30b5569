use Rattle.std.proofs.Common.{[]}
use Rattle.std.specs.Prelude.{slice_index_or}
use Rattle.ae_base.specs.Terms.{value}
use Rattle.net_fn.proofs.References.{Shown}
use Rattle.net_fn.proofs.expansions.expansion_values.Given as goal

abbrev pub invariant-loop-terms : goal.invariant-loop-terms
invariant-loop-terms g l = Shown (g.S.FnStore.functions l.fn.store) (g.S.FnStore.functions l.store) l.refs.items (λ o. value l.e.polarity (slice_index_or l.e.outs o [])) l.terms-index
