use Rattle.std.proofs.Common.{sym}
use Rattle.davio_dd.proofs.Shown.{live-place, Shows-value}
use Rattle.davio_dd.proofs.Terms.{value-in_order}
use Rattle.davio_dd.proofs.store.DavioFnStore.polarity.Goals as goal

pub returns-clause-all : goal.returns-clause-all
returns-clause-all c r live =
    let s = c.args.self.now in
    let place = live-place s.polarity s.nodes.keys r live in
    Shows-value s.polarity s.nodes.keys s.is_diagram r place _ (λ x point. sym (value-in_order s.polarity s.nodes.keys s.is_diagram r.at place x))
