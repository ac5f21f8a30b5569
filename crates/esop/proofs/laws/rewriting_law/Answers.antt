use Rattle.std.proofs.lemmas.List.Elements.{recursion_from_All}
use Rattle.std.specs.Prelude.{None}
use Rattle.ae_base.specs.Cube.{IsOver}
use Rattle.esop.proofs.Steps.{one_removes, rewritten_ends, step_keeps, step_as}
use Rattle.esop.proofs.Steps.{from_settled, settled_differ, settled_from}
use Rattle.esop.proofs.laws.rewriting_law.Goals as goal

pub returns : goal.returns
returns c = record {
  settled = λ cs. (from_settled cs, settled_from cs);
  stays = λ cs h. step_as cs None (from_settled cs h);
  value = λ n cs over order. (step_keeps n cs (record { over = recursion_from_All (IsOver n) cs over; order = order })).value;
  count = λ n cs over order. (step_keeps n cs (record { over = recursion_from_All (IsOver n) cs over; order = order })).length;
  fewer = λ cs h. one_removes cs (λ e. h (settled_from cs e));
  ends = λ cs. settled_from _ (rewritten_ends cs);
  once = settled_differ;
}
