use Rattle.std.proofs.Common.{◌≡◌, ◌<◌, ◌≤◌, ℕ, suc, false}
use Rattle.esop.specs.Search.{is_sought}
use Rattle.esop.proofs.pairs.partner.Given as goal

abbrev pub invariant-loop-second : goal.invariant-loop-second
invariant-loop-second l = (k : ℕ) → suc l.first ≤ k → k < l.second → is_sought l.sought l.cubes (l.first, k) ≡ false
