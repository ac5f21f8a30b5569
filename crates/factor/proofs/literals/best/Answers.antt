use Rattle.std.proofs.Common.{◌+◌, true, false, arith}
use Rattle.factor.specs.Search.{better}
use Rattle.factor.proofs.Taken.{lit}
use Rattle.factor.proofs.Meaning.{best_more, below_step, below_more}
use Rattle.factor.proofs.literals.best.Goals as goal

pub loop-j-preserved : goal.loop-j-preserved
loop-j-preserved c =
    let cubes = c.args.cubes.now in
    let j = c.loop-j.j in
    let best = c.loop-j.best in
    record {
      best = rw (c.better-best.ensures, c.better-plain.ensures) (best_more cubes j best c.loop-j.invariant.best);
      below = rw (c.better-best.ensures, c.better-plain.ensures) (below_step cubes (j + 1) (better cubes best (lit j true)) (lit j false) (omega arith) (below_step cubes (j + 1) best (lit j true) (omega arith) (below_more j best c.loop-j.invariant.below)));
    }
