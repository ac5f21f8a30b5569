-- What a search for the first point works with. For private contracts alone.
use Rattle.std.specs.Prelude.{◌≡◌, [], length}
use Rattle.ae_net.specs.Network.{Network, signals}
use Rattle.fault_sim.specs.declared.bench.Bench.{Bench}
use Rattle.fault_sim.specs.Sites.{IsHeld}
use Rattle.fault_sim.specs.Spread.{AreReaders, IsAtRest, IsCone}

-- A bench of the network, with which no fault is tried just now.
pub record IsBench (n : Network) (bench : Bench) : Type 0 where
  pub readers : AreReaders n bench.readers.items
  pub good : length bench.good.items ≡ signals n
  pub cone : IsCone n bench.cone
  pub rest : IsAtRest bench.good.items bench.cone
  pub held : IsHeld n bench.held
  pub none : bench.held.faults.items ≡ []
  pub ids : bench.ids.items ≡ []
