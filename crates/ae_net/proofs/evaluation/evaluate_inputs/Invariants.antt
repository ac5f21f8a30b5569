use Rattle.std.proofs.Common.{◌≡◌, map, take}
use Rattle.std.specs.List.{range_with_len}
use Rattle.ae_net.specs.declared.net.Place.TheVariants.{Stem}
use Rattle.ae_net.proofs.evaluation.evaluate_inputs.Given as goal

abbrev pub invariant-loop-j : goal.invariant-loop-j
invariant-loop-j g l = let d = g.V.Values.domain l.values in map g.V.Values.told (take l.j l.cells) ≡ map (λ j. d.seen (Stem j) (d.input j)) (range_with_len 0 l.j)
