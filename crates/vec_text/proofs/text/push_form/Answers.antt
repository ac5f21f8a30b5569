use Rattle.std.proofs.Common.{◌∷◌, [], ◌++◌, ◌∙◌, ap, sym}
use Rattle.std.specs.Prelude.{codes}
use Rattle.std.proofs.lemmas.List.{append-nil}
use Rattle.ae_base.specs.Form.{form_word}
use Rattle.vec_text.proofs.Written.{line_written}
use Rattle.vec_text.proofs.text.push_form.Goals as goal

pub returns : goal.returns
returns c =
    line_written c.args.out.now.items (codes "form") c.extend_from_slice.new.self.items c.push_word.new.out.items c.push.new.self.items (form_word c.args.form ∷ [])
    c.in_ok-extend_from_slice.ensures.items
    (c.in_ok-push_word.ensures ∙ ap (λ w. c.extend_from_slice.new.self.items ++ 32 ∷ w) (c.as_bytes.ensures.value ∙ c.word.ensures ∙ sym (append-nil (form_word c.args.form))))
    c.in_ok-push.ensures.items
