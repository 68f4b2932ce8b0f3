use Rattle.std.proofs.Common.{◌≡◌, ◌≤◌, drop}
use Rattle.rst_tree.specs.Forest.{height}
use Rattle.rst_tree.specs.Nodes.{forest_of}
use Rattle.rst_transform_contents.specs.Contents.{holds_table}
use Rattle.rst_transform_contents.proofs.contents.+holds_table.Given as goal

abbrev pub decreases-holds_table : goal.decreases-holds_table
decreases-holds_table l = height l.nodes.now

-- a table is among the nodes that are left where one is among all
abbrev pub invariant-loop-node : goal.invariant-loop-node
invariant-loop-node l = record {
  so_far : holds_table (forest_of (drop l.node-index l.node-items)) ≡ holds_table l.fn.nodes;
  low : height (forest_of (drop l.node-index l.node-items)) ≤ height l.fn.nodes;
}
