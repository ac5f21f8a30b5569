use Rattle.std.proofs.Common.{◌∙◌, sym}
use Rattle.esop.proofs.Thirds.{near_before, near_after, near_between}
use Rattle.esop.proofs.links.near_others.Goals as goal
use Rattle.esop.proofs.links.near_others.Goals.{then-is_near-via-then-is_near, then-is_near-via-else-is_near+then-is_near-2}

pub returns-then-is_near : goal.returns-then-is_near
returns-then-is_near c = elim c.then-is_near.branch [
  | then-is_near-via-then-is_near w ↦ sym (near_before c.args.cubes.now c.args.first c.args.second c.requires.order c.requires.within c.args.cube (sym c.is_near.ensures ∙ w.if-is_near.true))
  | then-is_near-via-else-is_near+then-is_near-2 w ↦ sym (near_after c.args.cubes.now c.args.first c.args.second c.requires.order c.requires.within c.args.cube (sym w.is_near-else-is_near.ensures ∙ w.if-is_near-2.true))
]

pub returns : goal.returns
returns c =
    c.is_near-2.ensures
    ∙ near_between c.args.cubes.now c.args.first c.args.second c.requires.order c.requires.within c.args.cube (sym c.is_near.ensures ∙ c.if-is_near.false) (sym c.is_near-else-is_near.ensures ∙ c.if-is_near-2.false)
