use Rattle.std.proofs.Common.{[], ◌∷◌, arith}
use Rattle.polarity.proofs.Asked.{first_alone, no_dearer}
use Rattle.polarity.proofs.asking.choose.Goals as goal

pub returns-clause-chosen : goal.returns-clause-chosen
returns-clause-chosen g c = λ s h.
    let base = rw c.requires.base at h in
    let best = c.in_ok-cheapest.ensures.best.functions s base in
    let settled = c.in_ok-settled.ensures in
    let first = (c.in_ok-cheapest.ensures.asked s base).first (c.args.start.polarity ∷ []) (first_alone s c.args.start.polarity) in
    record {
      cheapest = c.in_ok-cheapest.cheapest.polarity;
      first = first;
      settling = settled.settling s best;
      settled = settled.cheapest s best;
      no_dearer = no_dearer s _ c.in_ok-cheapest.cheapest.polarity first c.in_ok-settled.settled.polarity (omega (arith, settled.cost, c.cost_law.ensures s _ c.in_ok-cheapest.cheapest best, c.cost_law.ensures s _ c.in_ok-settled.settled (settled.functions s best)));
    }
