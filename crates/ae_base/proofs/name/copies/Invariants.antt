use Rattle.std.proofs.Common.{◌≡◌, take}
use Rattle.ae_base.proofs.name.copies.Given as goal

abbrev pub invariant-loop-name : goal.invariant-loop-name
invariant-loop-name l = l.list ≡ take l.name-index l.names
