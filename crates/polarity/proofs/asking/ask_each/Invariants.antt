use Rattle.std.proofs.Common.{◌≡◌, take, drop, map}
use Rattle.std.specs.List.{AllZip}
use Rattle.polarity.specs.Asking.{AreAsked, IsCandidate}
use Rattle.polarity.specs.Search.{Stands, advised}
use Rattle.polarity.specs.Makers.{OfEachSource}
use Rattle.polarity.proofs.asking.ask_each.Given as goal

abbrev pub invariant-each : goal.invariant-each
invariant-each g l = record {
  inputs : l.best.polarity.n ≡ l.initial.best.polarity.n;
  best : IsCandidate (g.M.Maker.base l.maker) (g.M.Maker.limit l.maker) l.best;
  asked : OfEachSource (g.M.Maker.base l.maker) (λ s.
      AreAsked s (g.M.Maker.limit l.maker) l.initial.best.polarity (map (λ a. advised (g.A.Advisor.left a) (g.A.Advisor.log a)) (take l.advisor-index l.initial.advisors))
      (map (λ a. advised (g.A.Advisor.left a) (g.A.Advisor.log a)) (take l.advisor-index l.advisors)) l.best.polarity);
  stands : AllZip Stands (map (λ a. advised (g.A.Advisor.left a) (g.A.Advisor.log a)) (take l.advisor-index l.initial.advisors))
      (map (λ a. advised (g.A.Advisor.left a) (g.A.Advisor.log a)) (take l.advisor-index l.advisors));
  rest : drop l.advisor-index l.advisors ≡ drop l.advisor-index l.initial.advisors;
}
