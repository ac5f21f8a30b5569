use Rattle.std.proofs.Common.{◌≤◌, take}
use Rattle.ae_net.specs.Network.{signals}
use Rattle.grading.specs.Parts.{ArePartedSoFar}
use Rattle.grading.proofs.missed.parts_of.Given as goal

abbrev pub invariant-loop-i : goal.invariant-loop-i
invariant-loop-i l = (signals l.net ≤ l.scratch) × ArePartedSoFar l.net l.lines l.points (take l.i l.list) l.parts × (l.parts.proved ≤ l.i)
