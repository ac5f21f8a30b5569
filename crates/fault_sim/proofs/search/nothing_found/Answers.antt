use Rattle.std.proofs.Common.{◌∷◌, [], length, length-append, ap, sym, subst, arith}
use Rattle.std.specs.Prelude.{None}
use Rattle.fault_sim.specs.Lanes.{AreNone}
use Rattle.fault_sim.proofs.Searches.{none-more}
use Rattle.fault_sim.proofs.search.nothing_found.Goals as goal

pub loop-preserved : goal.loop-preserved
loop-preserved c = (subst AreNone (sym c.in_ok-push.ensures.items) (none-more c.loop.found.items c.loop.invariant.0), omega (arith, ap length c.in_ok-push.ensures.items, length-append c.loop.found.items (None ∷ []), c.loop.invariant.1))
