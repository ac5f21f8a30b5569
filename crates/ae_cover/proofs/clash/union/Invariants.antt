use Rattle.std.proofs.Common.{◌≡◌, ℕ, ◌<◌, true, get_or}
use Rattle.ae_base.specs.Mask.{has}
use Rattle.ae_cover.proofs.clash.union.Given as goal

abbrev pub invariant-loop-s : goal.invariant-loop-s
invariant-loop-s l = (k o : ℕ) → k < l.s-index → has (get_or l.sets k 0) o ≡ true → has l.all o ≡ true
