use Rattle.std.proofs.Common.{◌≡◌, ◌≤◌, []}
use Rattle.rst_tree.specs.Forest.{height}
use Rattle.rst_tree.specs.Nodes.{forest_of}
use Rattle.rst_transform_names.specs.NameMessages.{filled, message_on, own_message}
use Rattle.rst_transform_names.specs.PlacingMessages.{seen}
use Rattle.rst_transform_names.proofs.placing.+fill.Given as goal

abbrev pub decreases-fill : goal.decreases-fill
decreases-fill l = height l.nodes

-- what is made so far, with the nodes that are left, becomes what is made of all
abbrev pub invariant-loop-node : goal.invariant-loop-node
invariant-loop-node l = record {
  so_far : filled (own_message (message_on l.fn.messages)) l.fn.parent l.first.items l.due.items (seen l.made) (forest_of l.node-iterator.rest.items)
      ≡ filled (own_message (message_on l.fn.messages)) l.fn.parent l.fn.first.items [] (record (seen l.fn.made) { nodes = [] }) l.fn.nodes;
  low : height (forest_of l.node-iterator.rest.items) ≤ height l.fn.nodes;
}
