use Rattle.ae_lex.proofs.Written.{last_written, lines_written}
use Rattle.ae_lex.proofs.laws.written_lines.Goals as goal

pub returns-clause-lines : goal.returns-clause-lines
returns-clause-lines c = lines_written

pub returns-clause-last : goal.returns-clause-last
returns-clause-last c = last_written
