use Rattle.std.proofs.Common.{◌≡◌, ◌++◌, map}
use Rattle.std.specs.Prelude.{filter}
use Rattle.std.specs.List.{flat_map, range_with_len}
use Rattle.ae_net.specs.declared.net.Place.TheVariants.{Stem}
use Rattle.ae_net.specs.Faults.{both_values}
use Rattle.ae_net.specs.Marks.{mark_at}
use Rattle.ae_net.proofs.places.push_stems.Given as goal

abbrev pub invariant-loop-s : goal.invariant-loop-s
invariant-loop-s l = l.list.items ≡ l.fn.list.items ++ flat_map both_values (map (λ s. Stem s) (filter (mark_at l.marks) (range_with_len 0 l.s)))
