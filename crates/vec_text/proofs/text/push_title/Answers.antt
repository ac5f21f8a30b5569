use Rattle.std.proofs.Common.{◌∷◌, []}
use Rattle.std.specs.Prelude.{codes}
use Rattle.vec_text.specs.VectorFile.{form_line}
use Rattle.vec_text.proofs.Written.{lines_more}
use Rattle.vec_text.proofs.text.push_title.Goals as goal

pub returns : goal.returns
returns c =
    lines_more c.args.out.now.items c.extend_from_slice.new.self.items c.push_form.new.out.items ((codes "andexor-vectors" ∷ codes "1" ∷ []) ∷ []) (form_line c.args.form ∷ [])
    c.in_ok-extend_from_slice.ensures.items c.in_ok-push_form.ensures
