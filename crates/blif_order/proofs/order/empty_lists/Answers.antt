use Rattle.std.proofs.Common.{ℕ, ◌+◌, List, [], ◌∷◌, ◌++◌, length, get_or, ap, ◌∙◌}
use Rattle.std.proofs.lemmas.List.{length_push}
use Rattle.blif_order.specs.Kept.{count}
use Rattle.blif_order.proofs.Counts.{empty_more}
use Rattle.blif_order.proofs.order.empty_lists.Goals as goal

pub loop-preserved : goal.loop-preserved
loop-preserved c =
    let e = c.in_ok-push.ensures.items ∙ ap (λ (x : List ℕ). c.loop.lists.items ++ x ∷ []) c.new.ensures in
    record {
      len = ap length e ∙ length_push c.loop.lists.items [] ∙ ap (λ n. n + 1) c.loop.invariant.len;
      empty = λ d i. ap (λ (xs : List (List ℕ)). count i (get_or xs d [])) e ∙ ap (count i) (empty_more c.loop.lists.items d) ∙ c.loop.invariant.empty d i;
    }
