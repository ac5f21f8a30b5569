use Rattle.std.proofs.Common.{ap, ◌∙◌}
use Rattle.redundancy.specs.Kept.{line_in}
use Rattle.redundancy.proofs.Bytes.{line_told}
use Rattle.redundancy.proofs.lines.LinesValues.input.Goals as goal

pub returns : goal.returns
returns c = ap line_in c.byte_of.ensures ∙ line_told c.input_line.result ∙ c.input_line.ensures
