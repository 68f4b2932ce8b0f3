use Rattle.std.proofs.Common.{◌≡◌, ◌≤◌}
use Rattle.rst_transform_substitutions.specs.Definitions.{found_by}
use Rattle.rst_transform_substitutions.specs.Expansion.{after_nodes, expanded_copies, given}
use Rattle.rst_transform_substitutions.proofs.Expanding.{so_far}
use Rattle.rst_transform_substitutions.proofs.expansion.+add_expanded.Given as goal

-- the count of what may still be visited falls at each node
abbrev pub decreases-add_expanded : goal.decreases-add_expanded
decreases-add_expanded l = l.progress.now.left

-- the nodes so far with what those that are left come to are those of all
abbrev pub invariant-loop-node : goal.invariant-loop-node
invariant-loop-node l = record {
  nodes : so_far (given (found_by l.fn.definitions) l.fn.progress.path.items) l.nodes.items l.node-items l.node-index l.progress.left ≡
      after_nodes l.fn.nodes.items (expanded_copies (given (found_by l.fn.definitions) l.fn.progress.path.items) l.fn.content l.fn.progress.left);
  path : l.progress.path.items ≡ l.fn.progress.path.items;
  left : l.progress.left ≤ l.initial.progress.left;
}
