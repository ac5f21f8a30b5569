use Rattle.std.proofs.Common.{◌≡◌, ◌++◌, length, map, take}
use Rattle.blif_read.specs.Build as spec
use Rattle.blif_read.proofs.ports.add_ports.Given as goal

abbrev pub invariant-loop-name : goal.invariant-loop-name
invariant-loop-name l = record {
  gates : l.gates ≡ l.fn.gates ++ map spec.zero_gate (spec.idle l.seen (take l.name-index l.name-items));
  ports : l.ports ≡ map (spec.shown_by l.seen l.ranks (length l.fn.gates)) (take l.name-index l.name-items);
}
