use Rattle.std.proofs.Common.{refl}
use Rattle.redundancy.proofs.Growths.{found}
use Rattle.redundancy.proofs.trees.evidence.Goals as goal

pub returns : goal.returns
returns c =
    rw c.unwrap_or.ensures (found c.args.net.now c.args.fault (λ d. c.leaf_law.ensures c.args.net.now c.args.fault d c.in_ok-stop.ensures.valid) (record { word = c.new.result; leaves = 0 }) c.grow.new.tree c.new.ensures.items refl c.in_ok-stop.stop
    (rw c.whole.ensures at c.in_ok-stop.ensures.grows))
