use Rattle.std.proofs.Common.{length}
use Rattle.rst_tree.proofs.node.Node.+set_at.Given as goal

abbrev pub decreases-set_at : goal.decreases-set_at
decreases-set_at l = length l.at.now
