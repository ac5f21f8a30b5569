use Rattle.std.proofs.Common.{◌∷◌, [], ℕ}
use Rattle.std.specs.Prelude.{Vec}
use Rattle.std.specs.declared.alloc.Global.{Global}
use Rattle.synth_cmd.specs.declared.reading.PairTexts.{PairTexts}
use Rattle.synth_cmd.proofs.Jobs.{hold_two, reads_first, reads_later}
use Rattle.synth_cmd.proofs.Names.{among_first, among_two}
use Rattle.synth_cmd.proofs.reading.read_pair.Goals as goal

pub returns-in-Err-clause-texts : goal.returns-in-Err-clause-texts
returns-in-Err-clause-texts g c = reads_first (λ (bytes : Vec ℕ Global). bytes.items ∷ []) (λ (texts : PairTexts). texts.net.items ∷ texts.vectors.items ∷ []) _ _ _ _ (c.args.names.now.vectors.now ∷ []) c.in-Err.unmade c.in-Err.ensures.texts

pub returns-in-Err-clause-reads : goal.returns-in-Err-clause-reads
returns-in-Err-clause-reads g c = among_first _ _ _ _ c.in-Err.ensures.reads

pub returns-in-Err-read_text-clause-texts : goal.returns-in-Err-read_text-clause-texts
returns-in-Err-read_text-clause-texts g c =
    reads_later (λ (bytes : Vec ℕ Global). bytes.items ∷ []) (λ (texts : PairTexts). texts.net.items ∷ texts.vectors.items ∷ []) _ _ _ (g.F.Files.read_faults c.read_text.new.files) _ c.args.names.now.net.now c.in-Ok.bytes.items (c.args.names.now.vectors.now ∷ []) c.in-Err-read_text.unmade c.in-Ok.ensures.stays c.in-Ok.ensures.reads c.in-Ok.ensures.texts.0 c.in-Err-read_text.ensures.texts

pub returns-in-Err-read_text-clause-reads : goal.returns-in-Err-read_text-clause-reads
returns-in-Err-read_text-clause-reads g c = among_two _ _ _ _ _ c.in-Ok.ensures.reads c.in-Err-read_text.ensures.reads

pub returns-in-Ok-read_text-clause-texts : goal.returns-in-Ok-read_text-clause-texts
returns-in-Ok-read_text-clause-texts g c = hold_two _ _ _ _ _ _ c.in-Ok.ensures.stays c.in-Ok.ensures.texts.0 c.in-Ok-read_text.ensures.texts.0

pub returns-in-Ok-read_text-clause-reads : goal.returns-in-Ok-read_text-clause-reads
returns-in-Ok-read_text-clause-reads g c = among_two _ _ _ _ _ c.in-Ok.ensures.reads c.in-Ok-read_text.ensures.reads
