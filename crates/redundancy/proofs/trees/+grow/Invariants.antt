use Rattle.std.proofs.Common.{◌-◌, length}
use Rattle.redundancy.proofs.trees.+grow.Given as goal

abbrev pub decreases-grow : goal.decreases-grow
decreases-grow l = length l.net.now.inputs - l.cube.now.depth
