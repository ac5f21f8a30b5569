use Rattle.ae_net.proofs.NamesApart.{gate_names_apart, decimals_apart}
use Rattle.ae_net.proofs.laws.names_law.Goals as goal

pub returns : goal.returns
returns c = record { names = gate_names_apart; numbers = decimals_apart }
