use Rattle.ae_lex.specs.Slices.{texts}
use Rattle.vec_text.proofs.Steps.{takes}
use Rattle.vec_text.proofs.draft.DraftDraft.read.Goals as goal

pub returns : goal.returns
returns c = λ before is. takes before (texts c.args.words.now) c.args.self.now c.read_words.new.self c.read_words.result is c.read_words.ensures
