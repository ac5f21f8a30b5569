use Rattle.std.proofs.Common.{◌≡◌, ◌∷◌, [], ◌++◌, ◌∙◌, ap, ap₂, List, ℕ}
use Rattle.ae_base.specs.Text.{text_of}
use Rattle.vec_text.specs.Lines.{title_lines, list_lines}
use Rattle.vec_text.specs.VectorFile.{polarity_line}
use Rattle.vec_text.proofs.Written.{lines_more}
use Rattle.vec_text.proofs.text.push_head.Goals as goal

pub returns : goal.returns
returns c =
    let file = c.args.file.now in
    let start = c.args.out.now.items in
    let first = c.push_title.new.out.items in
    let second = c.push_lists.new.out.items in
    let title : first ≡ start ++ text_of (title_lines file.form) = c.in_ok-push_title.ensures ∙ ap (λ v. start ++ text_of (title_lines v.form)) c.file.view_is in
    let lists : second ≡ first ++ text_of (list_lines file.inputs file.outputs) =
    c.in_ok-push_lists.ensures
    ∙ ap₂ (λ (i o : List (List ℕ)). first ++ text_of (list_lines i o)) (c.as_slice.ensures ∙ ap (λ v. v.inputs) c.file.view_is) (c.as_slice-2.ensures ∙ ap (λ v. v.outputs) c.file.view_is) in
    let polarity : c.push_polarity.new.out.items ≡ second ++ text_of (polarity_line file.polarity ∷ []) =
    c.in_ok-push_polarity.ensures ∙ ap (λ v. second ++ text_of (polarity_line v.polarity ∷ [])) c.file.view_is in
    lines_more start first c.push_polarity.new.out.items (title_lines file.form) (list_lines file.inputs file.outputs ++ (polarity_line file.polarity ∷ [])) title
    (lines_more first second c.push_polarity.new.out.items (list_lines file.inputs file.outputs) (polarity_line file.polarity ∷ []) lists polarity)
