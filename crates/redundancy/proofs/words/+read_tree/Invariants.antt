use Rattle.std.proofs.Common.{◌-◌, length}
use Rattle.redundancy.proofs.words.+read_tree.Given as goal

abbrev pub decreases-read_tree : goal.decreases-read_tree
decreases-read_tree l = length l.net.now.inputs - l.cube.now.depth
