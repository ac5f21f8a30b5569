use Rattle.vec_text.proofs.Written.{line_written, lines_more}
use Rattle.vec_text.proofs.laws.line_law.Goals as goal

pub returns-clause-line : goal.returns-clause-line
returns-clause-line c = line_written

pub returns-clause-more : goal.returns-clause-more
returns-clause-more c = lines_more
