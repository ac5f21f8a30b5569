use Rattle.std.proofs.Common.{◌≡◌, ◌<◌, ℕ, false}
use Rattle.ae_base.specs.Source.{Source}
use Rattle.expansion.specs.Functions.{AreExpansions}
use Rattle.polarity.proofs.Rounds.{costs_less}
use Rattle.polarity.proofs.settled.flip_first.Given as goal

abbrev pub invariant-loop-j : goal.invariant-loop-j
invariant-loop-j l = (s : Source) → AreExpansions s l.e.polarity l.e → (i : ℕ) → i < l.j → costs_less s l.e.polarity i ≡ false
