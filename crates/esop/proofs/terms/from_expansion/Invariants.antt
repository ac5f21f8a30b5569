use Rattle.std.proofs.Common.{◌≡◌, map, take}
use Rattle.esop.specs.Esop.{cube_of}
use Rattle.esop.specs.Order.{in_order}
use Rattle.esop.proofs.terms.from_expansion.Given as goal

abbrev pub invariant-loop-terms : goal.invariant-loop-terms
invariant-loop-terms l = l.outs ≡ map (λ ts. in_order (map (cube_of l.polarity) ts)) (take l.terms-index l.terms-items)
