use Rattle.std.proofs.Common.{◌≡◌, ◌≤◌, drop}
use Rattle.rst_tree.specs.Forest.{height}
use Rattle.rst_tree.specs.Nodes.{forest_of}
use Rattle.rst_transform_names.specs.NameMessages.{message_on}
use Rattle.rst_transform_names.specs.PlacingMessages.{are_quiet}
use Rattle.rst_transform_names.proofs.quiet.+are_quiet.Given as goal

abbrev pub decreases-are_quiet : goal.decreases-are_quiet
decreases-are_quiet l = height l.nodes.now

-- the nodes that are left are quiet where all are
abbrev pub invariant-loop-node : goal.invariant-loop-node
invariant-loop-node l = record {
  so_far : are_quiet (message_on l.fn.messages) (forest_of (drop l.node-index l.node-items)) ≡ are_quiet (message_on l.fn.messages) l.fn.nodes;
  low : height (forest_of (drop l.node-index l.node-items)) ≤ height l.fn.nodes;
}
