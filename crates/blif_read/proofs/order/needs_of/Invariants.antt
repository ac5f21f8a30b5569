use Rattle.std.proofs.Common.{◌≡◌, map, take}
use Rattle.blif_read.specs.Build as spec
use Rattle.blif_read.proofs.order.needs_of.Given as goal

abbrev pub invariant-loop-draft : goal.invariant-loop-draft
invariant-loop-draft l = l.needs.items ≡ map (λ d. spec.gates_among l.inputs d.pins) (take l.draft-index l.drafts)
