use Rattle.std.proofs.Common.{arith}
use Rattle.davio_dd.proofs.Splits.{first-below, split-parts}
use Rattle.davio_dd.proofs.diagram.Davio.split.Goals as goal

pub parts-a_low-requires-clause-below : goal.parts-a_low-requires-clause-below
parts-a_low-requires-clause-below c =
    let s = c.args.self.now in
    omega (arith, first-below s.polarity.n s.nodes.keys s.is_diagram c.args.a c.args.b c.requires.a c.requires.b c.requires.some c.requires.other c.requires.differ)

pub parts-b_low-requires-clause-below : goal.parts-b_low-requires-clause-below
parts-b_low-requires-clause-below c =
    let s = c.args.self.now in
    omega (arith, first-below s.polarity.n s.nodes.keys s.is_diagram c.args.a c.args.b c.requires.a c.requires.b c.requires.some c.requires.other c.requires.differ)

pub returns : goal.returns
returns c =
    let s = c.args.self.now in
    split-parts s.polarity s.nodes.keys c.args.a c.args.b c.min-input.result c.parts-a_low.result.0 c.parts-a_low.result.1 c.parts-b_low.result.0 c.parts-b_low.result.1
    (omega arith)
    (omega (arith, first-below s.polarity.n s.nodes.keys s.is_diagram c.args.a c.args.b c.requires.a c.requires.b c.requires.some c.requires.other c.requires.differ))
    c.parts-a_low.ensures c.parts-b_low.ensures
