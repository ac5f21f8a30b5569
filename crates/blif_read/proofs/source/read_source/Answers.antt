use Rattle.std.proofs.Common.{◌≡◌, ℕ, Some, Result, sym, ap₂, subst, ◌∙◌}
use Rattle.ae_lex.specs.Reads.{Gives}
use Rattle.ae_lex.specs.Words.{word_lines, last_line}
use Rattle.ae_lex.specs.declared.text.Style.TheVariants.{Blif}
use Rattle.ae_net.specs.NetSource.{NetSource}
use Rattle.blif_read.specs.SourceSays.{exdc_place, both_say}
use Rattle.blif_read.specs.declared.fault.BlifFault.{BlifFault}
use Rattle.blif_read.proofs.Both.{source_at}
use Rattle.blif_read.proofs.source.read_source.Goals as goal

pub returns-in-Some : goal.returns-in-Some
returns-in-Some c =
    let lines : c.as_slice-lines.result.now ≡ word_lines Blif c.args.bytes.now = cc (c.as_slice-lines.ensures, c.in_ok-list.ensures.list) in
    let last : c.in_ok-list.field-0.last ≡ last_line c.args.bytes.now = cc c.in_ok-list.ensures.last in
    let at : exdc_place c.as_slice-lines.result.now ≡ Some c.in-Some.place = sym c.exdc_place.ensures.place ∙ c.in-Some.is in
    let said = source_at c.args.bytes.now c.as_slice-lines.result.now c.in_ok-list.field-0.last c.in-Some.place lines last at in
    let parts = ap₂ (both_say c.in_ok-list.field-0.last) (sym c.lines_before.ensures) (sym c.lines_after.ensures) in
    subst (λ (said : Result NetSource (ℕ × BlifFault)). Gives said c.read_both.result) (sym (said ∙ parts)) c.read_both.ensures
