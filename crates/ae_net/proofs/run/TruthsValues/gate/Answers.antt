use Rattle.std.proofs.Common.{ap, ◌∙◌}
use Rattle.ae_net.specs.Run.{table}
use Rattle.ae_net.proofs.Runs.{byte_tells, table_kept}
use Rattle.ae_net.proofs.run.TruthsValues.gate.Goals as goal

pub returns : goal.returns
returns c value kept =
    byte_tells c.table.result
    ∙ c.table.ensures
    ∙ ap (table c.args.gate.now) c.ones_seen.ensures
    ∙ table_kept c.args.self.now.fault c.args.self.now.point c.args.bytes.now c.args.i c.args.gate.now value c.requires.earlier kept
