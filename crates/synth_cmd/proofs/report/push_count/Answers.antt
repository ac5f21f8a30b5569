use Rattle.std.proofs.Common.{◌∷◌, [], ◌++◌, ◌∙◌, ap, sym}
use Rattle.std.specs.Fmt.{decimal}
use Rattle.std.proofs.lemmas.List.{append-nil}
use Rattle.synth_cmd.proofs.report.push_count.Goals as goal

pub returns : goal.returns
returns c =
    c.line_law.ensures.line c.args.out.now.items c.args.word.now c.extend_from_slice.new.self.items c.push_number.new.out.items c.push.new.self.items (decimal c.args.number ∷ [])
    c.in_ok-extend_from_slice.ensures.items
    (c.in_ok-push_number.ensures ∙ ap (λ w. c.extend_from_slice.new.self.items ++ 32 ∷ w) (sym (append-nil (decimal c.args.number))))
    c.in_ok-push.ensures.items
