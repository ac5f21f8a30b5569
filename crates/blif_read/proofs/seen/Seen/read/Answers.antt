use Rattle.ae_lex.specs.Slices.{texts}
use Rattle.blif_read.proofs.Steps.{takes}
use Rattle.blif_read.proofs.seen.Seen.read.Goals as goal

pub returns : goal.returns
returns c = λ model before is. takes c.args.limits model before (texts c.args.words.now) c.args.self.now c.read_words.new.self c.read_words.result is c.read_words.ensures
