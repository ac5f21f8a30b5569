use Rattle.davio_dd.proofs.Shown.{one-Shows}
use Rattle.davio_dd.proofs.store.DavioFnStore.one.Goals as goal

pub returns : goal.returns
returns c = let s = c.args.self.now in one-Shows s.polarity s.nodes.keys s.is_diagram
