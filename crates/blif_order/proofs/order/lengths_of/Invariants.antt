use Rattle.std.proofs.Common.{◌≡◌, map, length, take}
use Rattle.blif_order.proofs.order.lengths_of.Given as goal

abbrev pub invariant-loop-need : goal.invariant-loop-need
invariant-loop-need l = l.lengths.items ≡ map length (take l.need-index l.needs)
