use Rattle.ae_lex.specs.declared.text.Style.TheVariants.{Pla}
use Rattle.vec_text.proofs.WrittenAgain.{said_again}
use Rattle.vec_text.proofs.laws.said_again.Goals as goal

pub returns : goal.returns
returns c = said_again (c.written_lines.ensures.lines Pla)
