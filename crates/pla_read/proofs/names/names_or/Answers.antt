use Rattle.std.proofs.Common.{arith}
use Rattle.pla_read.proofs.Defaults.{labels_if_ok}
use Rattle.pla_read.proofs.names.names_or.Goals as goal

pub returns-in-None-clause-labels : goal.returns-in-None-clause-labels
returns-in-None-clause-labels c = labels_if_ok c.default_names.result c.args.letter c.args.count c.requires.letter (omega (arith, c.ranges.count)) c.default_names.ensures
