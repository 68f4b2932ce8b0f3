use Rattle.std.proofs.Common.{◌≤◌, length}
use Rattle.rst_tree.specs.Forest.{height}
use Rattle.rst_tree.specs.Nodes.{forest_of}
use Rattle.rst_transform_contents.specs.Contents.{placed}
use Rattle.rst_transform_contents.proofs.Threading.{Threads}
use Rattle.rst_transform_contents.proofs.entries.Tables.+placed.Given as goal

abbrev pub decreases-placed : goal.decreases-placed
decreases-placed l = height l.nodes

abbrev pub decreases-loop-node : goal.decreases-loop-node
decreases-loop-node l = length l.left.items

-- the nodes so far, and then those that are left
abbrev pub invariant-loop-node : goal.invariant-loop-node
invariant-loop-node l = record {
  threads : Threads (placed (forest_of l.fn.root) (forest_of l.fn.here) (forest_of l.fn.here) l.fn.nodes) (placed (forest_of l.fn.root) (forest_of l.fn.here) (forest_of l.sections) (forest_of l.left.items)) l.initial.self l.self l.made.items;
  low : height (forest_of l.left.items) ≤ height l.fn.nodes;
}
