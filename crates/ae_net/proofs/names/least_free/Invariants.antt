use Rattle.std.proofs.Common.{◌≡◌, ◌+◌, ◌-◌, ◌++◌}
use Rattle.ae_net.specs.Lead as lead
use Rattle.ae_net.proofs.names.least_free.Given as goal

abbrev pub invariant-loop-d : goal.invariant-loop-d
invariant-loop-d l = lead.free_from (l.inputs ++ l.outputs) l.most 1 ≡ lead.free_from (l.inputs ++ l.outputs) (l.most - l.d) (l.d + 1)
