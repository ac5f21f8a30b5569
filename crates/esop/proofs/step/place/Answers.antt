use Rattle.std.proofs.Common.{◌∙◌, ap, arith}
use Rattle.std.specs.List.{prefix_len}
use Rattle.std.proofs.lemmas.List.Sums.{prefix_len-le-length}
use Rattle.esop.proofs.Placed.{insert_is, precedes}
use Rattle.esop.proofs.step.place.Goals as goal

pub insert-requires : goal.insert-requires
insert-requires c = omega (arith, c.place_of-at.ensures, c.as_slice.ensures.len, prefix_len-le-length (precedes c.args.cube) c.as_slice.result.now)

pub returns : goal.returns
returns c = c.in_ok-insert.ensures.items ∙ insert_is c.args.cube c.args.cubes.now.items _ (c.place_of-at.ensures ∙ ap (prefix_len (precedes c.args.cube)) c.as_slice.ensures.value)
