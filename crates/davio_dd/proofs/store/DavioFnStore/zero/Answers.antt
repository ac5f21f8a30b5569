use Rattle.std.proofs.Common.{false, arith}
use Rattle.davio_dd.proofs.Places.{value-zero}
use Rattle.davio_dd.proofs.Shown.{Shows-value}
use Rattle.davio_dd.proofs.store.DavioFnStore.zero.Goals as goal

pub returns : goal.returns
returns c = let s = c.args.self.now in Shows-value s.polarity s.nodes.keys s.is_diagram (record { at = 0 }) (omega arith) (λ x. false) (λ x point. value-zero s.polarity s.nodes.keys x)
