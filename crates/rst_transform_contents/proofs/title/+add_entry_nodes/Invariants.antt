use Rattle.std.proofs.Common.{◌≡◌, ◌++◌, ◌≤◌, drop}
use Rattle.rst_tree.specs.Forest.{height}
use Rattle.rst_tree.specs.Nodes.{forest_of}
use Rattle.rst_transform_contents.specs.Title.{entry_nodes}
use Rattle.rst_transform_contents.proofs.title.+add_entry_nodes.Given as goal

abbrev pub decreases-add_entry_nodes : goal.decreases-add_entry_nodes
decreases-add_entry_nodes l = height l.nodes.now

-- what an entry has of the nodes so far, and then of those that are left
abbrev pub invariant-loop-node : goal.invariant-loop-node
invariant-loop-node l = record {
  so_far : l.made.items ++ entry_nodes (forest_of (drop l.node-index l.node-items)) ≡ l.initial.made.items ++ entry_nodes l.fn.nodes;
  low : height (forest_of (drop l.node-index l.node-items)) ≤ height l.fn.nodes;
}
