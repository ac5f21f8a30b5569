use Rattle.std.proofs.Common.{sym, ◌∙◌, ap}
use Rattle.ae_base.specs.Mask.{Set}
use Rattle.fn_store.specs.Davio.{high}
use Rattle.davio_dd.proofs.Places.{node_at}
use Rattle.davio_dd.proofs.Point.{path-place, path-constant}
use Rattle.davio_dd.proofs.diagram.Davio.+path.Goals as goal

pub returns-then-node-eq0 : goal.returns-then-node-eq0
returns-then-node-eq0 t c =
    let s = c.args.self.now in
    c.at_one.ensures ∙ ap (λ (x : Set). high s.polarity c.in-Some.node.input x) c.path-rest.ensures
    ∙ sym ((path-place s.polarity s.nodes.keys s.is_diagram c.args.a (node_at _ _ _ c.in-Some.node c.in-Some.ensures)).0 c.if-node-eq0.true)

pub returns-else-node-eq0 : goal.returns-else-node-eq0
returns-else-node-eq0 t c =
    let s = c.args.self.now in
    c.path.ensures ∙ sym ((path-place s.polarity s.nodes.keys s.is_diagram c.args.a (node_at _ _ _ c.in-Some.node c.in-Some.ensures)).1 c.if-node-eq0.false)

pub returns-in-None : goal.returns-in-None
returns-in-None t c =
    let s = c.args.self.now in
    c.at_zero.ensures ∙ sym (path-constant s.polarity s.nodes.keys c.args.a c.in-None.ensures)
