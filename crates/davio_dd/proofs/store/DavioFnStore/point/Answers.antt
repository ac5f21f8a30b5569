use Rattle.std.proofs.Common.{arith, ℕ, ap, sym, ◌∙◌}
use Rattle.davio_dd.specs.Diagram.{place_value}
use Rattle.davio_dd.proofs.Places.{value-zero}
use Rattle.davio_dd.proofs.Point.{point-least}
use Rattle.davio_dd.proofs.Shown.{live-place, value-Shows}
use Rattle.davio_dd.proofs.store.DavioFnStore.point.Goals as goal

pub returns-then-a-eq0 : goal.returns-then-a-eq0
returns-then-a-eq0 c f shows x point =
    let s = c.args.self.now in
    sym (value-Shows s.polarity s.nodes.keys s.is_diagram c.args.a f shows x point) ∙ ap (λ (at : ℕ). place_value s.polarity s.nodes.keys at x) c.if-a-eq0.true ∙ value-zero s.polarity s.nodes.keys x

pub returns : goal.returns
returns c f shows =
    let s = c.args.self.now in
    rw c.path.ensures
    (point-least s.polarity s.nodes.keys s.is_diagram c.args.a.at (live-place s.polarity s.nodes.keys c.args.a c.requires) (omega (arith, c.if-a-eq0.false)) f
    (value-Shows s.polarity s.nodes.keys s.is_diagram c.args.a f shows))
