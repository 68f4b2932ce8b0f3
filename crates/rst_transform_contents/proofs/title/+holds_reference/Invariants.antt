use Rattle.std.proofs.Common.{◌≡◌, ◌≤◌, drop}
use Rattle.rst_tree.specs.Forest.{height}
use Rattle.rst_tree.specs.Nodes.{forest_of}
use Rattle.rst_transform_contents.specs.Title.{holds_reference}
use Rattle.rst_transform_contents.proofs.title.+holds_reference.Given as goal

abbrev pub decreases-holds_reference : goal.decreases-holds_reference
decreases-holds_reference l = height l.nodes.now

-- the nodes that are left hold a reference where all do
abbrev pub invariant-loop-node : goal.invariant-loop-node
invariant-loop-node l = record {
  so_far : holds_reference (forest_of (drop l.node-index l.node-items)) ≡ holds_reference l.fn.nodes;
  low : height (forest_of (drop l.node-index l.node-items)) ≤ height l.fn.nodes;
}
