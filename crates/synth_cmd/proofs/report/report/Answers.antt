use Rattle.std.proofs.Common.{◌≡◌, ◌∷◌, [], ◌++◌, subst}
use Rattle.std.specs.Prelude.{codes}
use Rattle.std.specs.Fmt.{decimal}
use Rattle.ae_base.specs.Text.{text_of}
use Rattle.vec_text.specs.VectorFile.{form_line, polarity_line}
use Rattle.synth_cmd.specs.Lines.{count_lines}
use Rattle.synth_cmd.proofs.report.report.Goals as goal

pub returns : goal.returns
returns c =
    let s = c.args.summary in
    let form = form_line s.form ∷ [] in
    let sizes = (codes "inputs" ∷ decimal s.inputs ∷ codes "outputs" ∷ decimal s.outputs ∷ []) ∷ [] in
    let polarity = polarity_line s.polarity ∷ [] in
    subst (λ start. c.push_counts.new.out.items ≡ start ++ text_of (form_line s.form ∷ (codes "inputs" ∷ decimal s.inputs ∷ codes "outputs" ∷ decimal s.outputs ∷ []) ∷ polarity_line s.polarity ∷ count_lines s)) c.new-out.ensures.items
    (c.line_law.ensures.more c.new-out.result.items c.push_form.new.out.items c.push_counts.new.out.items form ((codes "inputs" ∷ decimal s.inputs ∷ codes "outputs" ∷ decimal s.outputs ∷ []) ∷ polarity_line s.polarity ∷ count_lines s)
    c.in_ok-push_form.ensures
    (c.line_law.ensures.more c.push_form.new.out.items c.push_sizes.new.out.items c.push_counts.new.out.items sizes (polarity_line s.polarity ∷ count_lines s)
    c.in_ok-push_sizes.ensures
    (c.line_law.ensures.more c.push_sizes.new.out.items c.push_polarity.new.out.items c.push_counts.new.out.items polarity (count_lines s) c.in_ok-push_polarity.ensures c.in_ok-push_counts.ensures)))
