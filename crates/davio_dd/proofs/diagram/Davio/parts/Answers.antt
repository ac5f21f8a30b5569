use Rattle.std.proofs.Common.{arith}
use Rattle.davio_dd.proofs.Canonical.{top-place, part-whole, part-node}
use Rattle.davio_dd.proofs.Places.{top-constant, node_at}
use Rattle.davio_dd.proofs.diagram.Davio.parts.Goals as goal

pub returns-in-Some : goal.returns-in-Some
returns-in-Some c =
    let s = c.args.self.now in
    rw (← c.if-node-input.true) (part-node s.polarity s.nodes.keys s.is_diagram c.args.a (node_at s.polarity.n s.nodes.keys c.args.a c.in-Some.node c.in-Some.ensures))

pub returns-in_default : goal.returns-in_default
returns-in_default c =
    let s = c.args.self.now in
    part-whole s.polarity s.nodes.keys c.args.a c.args.input c.requires.below
    (omega (arith, top-place s.polarity.n s.nodes.keys s.is_diagram c.args.a (node_at s.polarity.n s.nodes.keys c.args.a c.in-Some.node c.in-Some.ensures), c.if-node-input.false, c.requires.first))

pub returns-in_default-2 : goal.returns-in_default-2
returns-in_default-2 c =
    let s = c.args.self.now in
    part-whole s.polarity s.nodes.keys c.args.a c.args.input c.requires.below (omega (arith, top-constant s.polarity.n s.nodes.keys c.args.a c.in_default.ensures))
