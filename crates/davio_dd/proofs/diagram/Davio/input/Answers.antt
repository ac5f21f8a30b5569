use Rattle.std.proofs.Common.{sym, arith}
use Rattle.davio_dd.proofs.Canonical.{top-place}
use Rattle.davio_dd.proofs.Places.{top-constant, node_at}
use Rattle.davio_dd.proofs.diagram.Davio.input.Goals as goal

pub returns-in-Some : goal.returns-in-Some
returns-in-Some c = let s = c.args.self.now in sym (top-place s.polarity.n s.nodes.keys s.is_diagram c.args.a (node_at _ _ _ c.in-Some.node c.in-Some.ensures))

pub returns-in-None : goal.returns-in-None
returns-in-None c = let s = c.args.self.now in omega (arith, top-constant s.polarity.n s.nodes.keys c.args.a c.in-None.ensures)
