use Rattle.redundancy.specs.Kept.{pin_kept, view_of}
use Rattle.redundancy.proofs.Bytes.{IsProduct-known_pins}
use Rattle.redundancy.proofs.lines.known_pins.Goals as goal

pub invariant_of-result : goal.invariant_of-result
invariant_of-result c =
    rw (c.loop-k.invariant.0, c.loop-k.invariant.1) (IsProduct-known_pins c.loop-k.k (λ k. view_of c.args.view (pin_kept c.args.fault c.args.bytes.now c.args.i c.args.gate.now k)))
