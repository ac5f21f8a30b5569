use Rattle.std.proofs.Common.{◌<◌, IfSome}
use Rattle.factor.specs.Search.{IsBest}
use Rattle.factor.proofs.literals.best.Given as goal

abbrev pub invariant-loop-j : goal.invariant-loop-j
invariant-loop-j l = record {
  best : IsBest l.cubes (λ u. u.input < l.j) l.best;
  below : IfSome l.best (λ best. best.literal.input < l.j);
}
