use Rattle.std.proofs.Common.{◌≡◌}
use Rattle.std.specs.Prelude.{slice_index, ◌==◌}
use Rattle.ae_base.specs.Mask.{where_below}
use Rattle.ae_net.specs.declared.net.Place.TheVariants.{Pin}
use Rattle.ae_net.specs.Run.{seen}
use Rattle.ae_net.proofs.run.ones_seen.Given as goal

abbrev pub invariant-loop-k : goal.invariant-loop-k
invariant-loop-k l = l.ones ≡ where_below l.k (λ k. seen l.fault (Pin l.i k) (slice_index l.bytes (slice_index l.gate.pins k) == 1))
