use Rattle.std.proofs.Common.{◌≡◌}
use Rattle.polarity.specs.Asking.{IsCandidate, IsBeingAsked}
use Rattle.polarity.specs.Search.{Stands, advised}
use Rattle.polarity.specs.Makers.{OfEachSource}
use Rattle.polarity.proofs.asking.ask_one.Given as goal

abbrev pub invariant-asking : goal.invariant-asking
invariant-asking g l = record {
  inputs : l.n ≡ l.initial.best.polarity.n;
  best : IsCandidate (g.M.Maker.base l.maker) (g.M.Maker.limit l.maker) l.best;
  asked : OfEachSource (g.M.Maker.base l.maker) (λ s.
      IsBeingAsked s (g.M.Maker.limit l.maker) l.initial.best.polarity (g.A.Advisor.log l.initial.advisor) (g.A.Advisor.log l.advisor) l.best.polarity);
  stands : Stands (advised (g.A.Advisor.left l.initial.advisor) (g.A.Advisor.log l.initial.advisor)) (advised (g.A.Advisor.left l.advisor) (g.A.Advisor.log l.advisor));
}

abbrev pub decreases-asking : goal.decreases-asking
decreases-asking g l = g.A.Advisor.left l.advisor
