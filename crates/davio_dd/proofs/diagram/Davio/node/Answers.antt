use Rattle.std.proofs.Common.{◌∙◌, ap, arith}
use Rattle.std.proofs.lemmas.Option.{slice_get_within}
use Rattle.davio_dd.specs.Diagram.{top}
use Rattle.davio_dd.proofs.Growing.{node-value}
use Rattle.davio_dd.proofs.Canonical.{part-none}
use Rattle.davio_dd.proofs.Places.{top-node}
use Rattle.davio_dd.proofs.diagram.Davio.node.Goals as goal

pub returns-then-node-eq0-clause-value : goal.returns-then-node-eq0-clause-value
returns-then-node-eq0-clause-value c x = (part-none c.args.self.now.polarity c.args.self.now.nodes.keys c.args.node.low c.args.node.high c.args.node.input c.if-node-eq0.true x)

pub returns-in-Some-clause-within : goal.returns-in-Some-clause-within
returns-in-Some-clause-within c = omega (arith, slice_get_within c.add.new.self.nodes.keys c.in_ok-place.place c.args.node c.in_ok-place.ensures.at, c.in-Some.ensures)

pub returns-in-Some-clause-over : goal.returns-in-Some-clause-over
returns-in-Some-clause-over c =
    let s = c.add.new.self in
    omega (arith, ap (top s.polarity.n s.nodes.keys) c.in-Some.ensures.1 ∙ top-node s.polarity.n s.nodes.keys s.is_diagram c.in_ok-place.place c.args.node c.in_ok-place.ensures.at)

pub returns-in-Some-clause-value : goal.returns-in-Some-clause-value
returns-in-Some-clause-value c x =
    let s = c.add.new.self in
    let h = c.in_ok-place.ensures in
    rw h.polarity (node-value c.args.self.now.polarity c.args.self.now.nodes.keys s.nodes.keys c.in_ok-place.place c.args.node (rw h.polarity at s.is_diagram) h.grows h.at c.requires.low c.requires.high c.in-Some.at c.in-Some.ensures.1 x)
