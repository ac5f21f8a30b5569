use Rattle.std.proofs.Common.{◌≡◌, drop, map, max}
use Rattle.ae_net.specs.Lead as lead
use Rattle.ae_net.specs.Names as spec
use Rattle.ae_net.proofs.names.most_underscores.Given as goal

abbrev pub invariant-loop-name : goal.invariant-loop-name
invariant-loop-name l = max l.most (lead.greatest (map spec.underscores (drop l.name-index l.names))) ≡ lead.greatest (map spec.underscores l.names)
