use Rattle.std.proofs.Common.{◌∷◌, ◌++◌, [], length, length-append, ap, ◌∙◌, arith}
use Rattle.fault_sim.specs.Spread.{row}
use Rattle.fault_sim.proofs.Reading.{row-more}
use Rattle.fault_sim.proofs.readers.empty_lists.Goals as goal

pub loop-preserved : goal.loop-preserved
loop-preserved c = record {
  empty = λ s. ap (λ lists. row lists s) (c.in_ok-push.ensures.items ∙ ap (λ list. c.loop.lists.items ++ list ∷ []) c.new.ensures) ∙ row-more c.loop.lists.items s c.loop.invariant.empty;
  len = omega (arith, ap length c.in_ok-push.ensures.items, length-append c.loop.lists.items (c.new.result ∷ []), c.loop.invariant.len);
}
