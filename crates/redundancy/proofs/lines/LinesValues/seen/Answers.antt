use Rattle.std.proofs.Common.{ap, ◌∙◌}
use Rattle.redundancy.specs.Kept.{line_in}
use Rattle.redundancy.specs.Simulation.{held}
use Rattle.redundancy.proofs.Bytes.{line_told}
use Rattle.redundancy.proofs.lines.LinesValues.seen.Goals as goal

pub returns : goal.returns
returns c = ap line_in c.byte_of.ensures ∙ line_told c.held.result ∙ c.held.ensures ∙ ap (held c.args.self.now.fault c.args.at) c.line_in.ensures
