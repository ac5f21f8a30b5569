use Rattle.std.proofs.Common.{nat_eq, ap₂, ◌∙◌, arith}
use Rattle.fault_sim.proofs.PartLanes.{same-mask, same-parts}
use Rattle.fault_sim.proofs.words.WordPartialEq.eq.Goals as goal

pub returns : goal.returns
returns c =
    let xs = c.self.inside.parts in
    let ys = c.other.inside.parts in
    same-mask 8 xs ys (omega arith) c.self.invariant.0 c.other.invariant.0 ∙ same-parts xs ys c.self.invariant c.other.invariant ∙ ap₂ nat_eq c.self.view_is c.other.view_is
