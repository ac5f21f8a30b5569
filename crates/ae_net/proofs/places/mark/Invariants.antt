use Rattle.std.specs.Prelude.{take, ◌==◌}
use Rattle.std.specs.List.{list_any}
use Rattle.ae_net.specs.Marks.{Marks}
use Rattle.ae_net.proofs.places.mark.Given as goal

abbrev pub invariant-loop-s : goal.invariant-loop-s
invariant-loop-s l = Marks (λ s. list_any (λ t. t == s) (take l.s-index l.list)) l.fn.marks l.marks
