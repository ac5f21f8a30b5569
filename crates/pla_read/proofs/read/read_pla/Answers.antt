use Rattle.std.proofs.Common.{◌≡◌, ℕ, sym, ap₂, ◌∙◌, subst, Result}
use Rattle.std.specs.Prelude.{unwrap_or}
use Rattle.std.proofs.lemmas.Result.{err_from_is_err_and}
use Rattle.ae_cover.specs.Cover.{Table}
use Rattle.ae_lex.specs.Reads.{Gives}
use Rattle.ae_lex.specs.Words.{word_lines, last_line}
use Rattle.ae_lex.specs.declared.text.Style.TheVariants.{Pla}
use Rattle.pla_read.proofs.Whole.{fault_says, text_says}
use Rattle.pla_read.specs.declared.fault.PlaFault.{PlaFault}
use Rattle.pla_read.proofs.read.read_pla.Goals as goal

pub returns-in_err-end : goal.returns-in_err-end
returns-in_err-end c =
    let p = err_from_is_err_and c.from_residual-in_err-end.result c.from_residual-in_err-end.ensures.1 in
    rw (p.1, p.2) (fault_says c.args.bytes.now c.as_slice.result.now _ (c.as_slice.ensures ∙ c.in_ok-list.ensures.list) c.in_err-end.ensures)

pub returns : goal.returns
returns c =
    let bytes = c.args.bytes.now in
    let lines : c.as_slice.result.now ≡ word_lines Pla bytes = cc (c.as_slice.ensures, c.in_ok-list.ensures.list) in
    let last : c.in_ok-list.last ≡ last_line bytes = cc (c.in_ok-list.ensures.last) in
    let read = c.in_ok-end.ensures in
    let says = text_says bytes c.as_slice.result.now c.read_lines.new.draft c.in_ok-list.last c.unwrap_or.result lines last read.0 read.2 (c.unwrap_or.ensures ∙ ap₂ unwrap_or read.1 c.in_ok-list.last-is) in
    subst (λ (said : Result Table (ℕ × PlaFault)). Gives said c.finish.result) (sym says) c.finish.ensures
