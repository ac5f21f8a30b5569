use Rattle.std.proofs.Common.{◌≡◌, suc}
use Rattle.std.specs.Prelude.{nat_lt}
use Rattle.ae_base.specs.Mask.{where_below}
use Rattle.polarity.specs.Draws.{after_draws, drawn}
use Rattle.polarity.proofs.walker.draw_polarity.Given as goal

abbrev pub invariant-loop-j : goal.invariant-loop-j
invariant-loop-j l = record {
  state : l.generator ≡ after_draws l.j l.initial.generator;
  plain : l.plain ≡ where_below l.j (λ j. nat_lt (drawn (after_draws (suc j) l.initial.generator)) 2);
}
