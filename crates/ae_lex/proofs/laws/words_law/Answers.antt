use Rattle.ae_lex.proofs.Words.{last_same, lines_cut}
use Rattle.ae_lex.proofs.laws.words_law.Goals as goal

pub returns-clause-words : goal.returns-clause-words
returns-clause-words c = lines_cut

pub returns-clause-last : goal.returns-clause-last
returns-clause-last c = last_same
