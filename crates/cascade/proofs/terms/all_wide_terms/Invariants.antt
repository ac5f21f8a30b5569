use Rattle.std.proofs.Common.{◌≡◌, take}
use Rattle.std.specs.Prelude.{filter}
use Rattle.std.specs.List.{flat_map}
use Rattle.cascade.specs.Reddy.{is_wide}
use Rattle.cascade.proofs.terms.all_wide_terms.Given as goal

abbrev pub invariant-loop-terms : goal.invariant-loop-terms
invariant-loop-terms l = l.list.items ≡ filter is_wide (flat_map (λ terms. terms) (take l.terms-index l.outs))
