use Rattle.std.proofs.Common.{◌≡◌, take}
use Rattle.expansion.proofs.expansion.Expansion.copy.Given as goal

abbrev pub invariant-loop-terms : goal.invariant-loop-terms
invariant-loop-terms l = l.outs ≡ take l.terms-index l.terms-items
