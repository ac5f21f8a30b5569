use Rattle.std.proofs.Common.{◌&&◌, ℕ, List, ltb, eqb, length, get_or, sym, ap, ◌∙◌}
use Rattle.blif_order.proofs.Steps.{start_state}
use Rattle.blif_order.proofs.order.order_of.Goals as goal

pub place_all-requires-clause-state : goal.place_all-requires-clause-state
place_all-requires-clause-state c =
    start_state c.args.needs.now c.new-placed.result.items c.as_mut_slice.result.now c.in_ok-ready.ready c.new-placed.ensures.items (c.as_mut_slice.ensures.value ∙ c.in_ok-missing.ensures)
    (λ i. c.in_ok-ready.ensures i ∙ ap (λ (xs : List ℕ). ltb i (length xs) && eqb (get_or xs i 0) 0) (c.as_slice.ensures.value ∙ sym c.as_mut_slice.ensures.value))
