use Rattle.std.proofs.Common.{◌≡◌, ◌≤◌, ℕ, List, drop}
use Rattle.rst_tree.specs.Forest.{height}
use Rattle.rst_tree.specs.Nodes.{forest_of}
use Rattle.rst_transform_substitutions.specs.Expansion.{given_within, most_visited}
use Rattle.rst_transform_substitutions.specs.Definitions.{found_by}
use Rattle.rst_transform_substitutions.specs.Sizes.{and_then, takes, AreAbove}
use Rattle.rst_transform_substitutions.proofs.Sizing.{remaining}
use Rattle.rst_transform_substitutions.proofs.sizes.+add_size.Given as goal

abbrev pub decreases-add_size : goal.decreases-add_size
decreases-add_size l = height l.nodes.now

-- all nodes after those before come to what those that are left come to after those so far
abbrev pub invariant-loop-node : goal.invariant-loop-node
invariant-loop-node l = record {
  size : (more left : ℕ) (path : List ℕ) → AreAbove l.fn.definitions.measured.items l.size.nested path → left ≤ most_visited →
      and_then (takes l.fn.size more left) (remaining (given_within (found_by l.fn.definitions) more path) l.fn.nodes) ≡ and_then (takes l.size more left) (remaining (given_within (found_by l.fn.definitions) more path) (forest_of (drop l.node-index l.node-items)));
  nested : l.initial.size.nested ≤ l.size.nested;
}
