use Rattle.std.proofs.Common.{◌≡◌, ◌-◌, drop}
use Rattle.rst_tree.proofs.EachNode.{are_within}
use Rattle.rst_tree.proofs.tree.+is_tree_within.Given as goal

abbrev pub decreases-is_tree_within : goal.decreases-is_tree_within
decreases-is_tree_within l = l.levels

abbrev pub invariant-loop-child : goal.invariant-loop-child
invariant-loop-child l = are_within (l.levels - 1) (drop l.child-index l.child-items) ≡ are_within (l.levels - 1) l.child-items
