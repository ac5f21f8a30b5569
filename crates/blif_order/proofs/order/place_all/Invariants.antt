use Rattle.std.proofs.Common.{◌≡◌, ◌-◌, length}
use Rattle.blif_order.specs.Kept as kept
use Rattle.blif_order.specs.Order as order
use Rattle.blif_order.proofs.order.place_all.Given as goal

abbrev pub invariant-loop : goal.invariant-loop
invariant-loop l = record {
  state : kept.IsState l.needs l.placed.items l.missing l.ready;
  so_far : order.place l.needs (length l.needs - l.counter) l.placed.items ≡ order.place l.needs (length l.needs) l.fn.placed.items;
}
