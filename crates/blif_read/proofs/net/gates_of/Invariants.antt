use Rattle.std.proofs.Common.{◌≡◌, length, map, take}
use Rattle.blif_read.specs.Build as spec
use Rattle.blif_read.proofs.net.gates_of.Given as goal

abbrev pub invariant-loop-place : goal.invariant-loop-place
invariant-loop-place l = l.gates ≡ map (spec.built_at l.lines l.seen.driven l.drafts (length l.seen.inputs) l.ranks) (take l.place-index l.order)
