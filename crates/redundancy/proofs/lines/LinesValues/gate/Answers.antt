use Rattle.std.proofs.Common.{ap, ◌∙◌}
use Rattle.redundancy.specs.Kept.{line_in}
use Rattle.redundancy.proofs.Bytes.{line_told}
use Rattle.redundancy.proofs.Simulated.{gate_kept}
use Rattle.redundancy.proofs.lines.LinesValues.gate.Goals as goal

pub returns : goal.returns
returns c value kept =
    ap line_in c.byte_of.ensures
    ∙ line_told c.gate_line.result
    ∙ c.gate_line.ensures
    ∙ gate_kept c.args.self.now.fault c.args.self.now.cube.now c.args.bytes.now c.args.i c.args.gate.now value c.requires.earlier kept
