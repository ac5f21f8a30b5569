use Rattle.std.proofs.Common.{ℕ, eqb-true, eq-eqb, sym, ap, ◌∙◌}
use Rattle.davio_dd.specs.Diagram.{place_value}
use Rattle.davio_dd.proofs.Canonical.{same_place}
use Rattle.davio_dd.proofs.Shown.{live-place, value-Shows}
use Rattle.davio_dd.proofs.store.DavioFnStore.same.Goals as goal

pub returns : goal.returns
returns c f g a b =
    let s = c.args.self.now in
    let left = value-Shows s.polarity s.nodes.keys s.is_diagram c.args.a f a in
    let right = value-Shows s.polarity s.nodes.keys s.is_diagram c.args.b g b in (
      λ e x point. sym (left x point) ∙ ap (λ (at : ℕ). place_value s.polarity s.nodes.keys at x) (eqb-true c.args.a.at c.args.b.at e) ∙ right x point,
      λ e. eq-eqb c.args.a.at c.args.b.at (same_place s.polarity s.nodes.keys s.is_diagram _ _
          (live-place s.polarity s.nodes.keys c.args.a c.requires.a) (live-place s.polarity s.nodes.keys c.args.b c.requires.b) (λ x point. left x point ∙ e x point ∙ sym (right x point))),
    )
