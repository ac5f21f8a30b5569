use Rattle.std.proofs.Common.{rules, ap, ◌∙◌}
use Rattle.ae_base.specs.Mask.{has, either}
use Rattle.ae_base.specs.Cube.{Product}
use Rattle.ae_base.proofs.Sets.{has-empty}
use Rattle.net_fn.proofs.Cofactors.{read-more}
use Rattle.net_fn.proofs.cubes.numbers_read.Goals as goal

pub loop-cube-init : goal.loop-cube-init
loop-cube-init c k = ap (λ s. has s k) c.empty-read.ensures ∙ has-empty k

pub loop-cube-preserved : goal.loop-cube-preserved
loop-cube-preserved c k =
    read-more c.args.cubes.now c.loop-cube.cube-index c.cube-item.result c.loop-cube.read c.or-read.result k (search rules) (search rules) (c.loop-cube.invariant k)
    (c.or-read.ensures ∙ ap (either c.loop-cube.read) (c.or.ensures ∙ ap (λ (d : Product). either d.pos d.neg) c.cube.view_is))
