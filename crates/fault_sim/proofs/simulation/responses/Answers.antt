use Rattle.std.specs.Prelude.{None}
use Rattle.ae_net.specs.Out.{out}
use Rattle.ae_net.specs.Run.{Shows}
use Rattle.fault_sim.proofs.Simulated.{AllZip-from_map}
use Rattle.fault_sim.proofs.simulation.responses.Goals as goal

pub returns-clause-shows : goal.returns-clause-shows
returns-clause-shows c = rw c.in_ok-push_all.ensures (AllZip-from_map (Shows c.args.net.now None) (out c.args.net.now None) (c.shows_out.ensures None) c.args.points.now)
