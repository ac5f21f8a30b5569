use Rattle.std.proofs.Common.{◌≡◌, ℕ, take}
use Rattle.std.specs.List.{list_any}
use Rattle.ae_base.specs.Mask.{has}
use Rattle.expansion.proofs.used.used_inputs.Given as goal

abbrev pub invariant-loop-terms : goal.invariant-loop-terms
invariant-loop-terms l = (j : ℕ) → has l.used j ≡ list_any (λ ts. list_any (λ t. has t j) ts) (take l.terms-index l.e.outs)
