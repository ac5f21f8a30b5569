use Rattle.ae_net.specs.declared.net.Place.TheVariants.{Stem}
use Rattle.ae_net.specs.Marks.{mark_at}
use Rattle.ae_base.proofs.Written.{pushed}
use Rattle.ae_net.proofs.PlaceLemmas.{faults_more_kept}
use Rattle.ae_net.proofs.places.push_stems.Goals as goal

pub loop-s-preserved : goal.loop-s-preserved
loop-s-preserved c = pushed _ _ _ _ _ _ c.loop-s.invariant c.in_ok-push_stem.ensures (faults_more_kept (λ s. Stem s) (mark_at c.args.marks.now) c.loop-s.s)
