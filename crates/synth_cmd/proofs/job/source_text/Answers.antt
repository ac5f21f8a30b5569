use Rattle.std.proofs.Common.{refl}
use Rattle.synth_cmd.proofs.Jobs.{file_gives}
use Rattle.synth_cmd.proofs.Names.{among_none, among_one}
use Rattle.synth_cmd.proofs.job.source_text.Goals as goal

pub returns-in-File-clause-text : goal.returns-in-File-clause-text
returns-in-File-clause-text g c = rw c.in-File.is (file_gives c.args.settings.now _ _ _ _ c.read_text.result c.read_text.ensures.texts)

pub returns-in-File-clause-reads : goal.returns-in-File-clause-reads
returns-in-File-clause-reads g c = rw c.in-File.is (among_one _ _ _ c.read_text.ensures.reads)
