use Rattle.std.proofs.Common.{◌≡◌, ◌++◌, drop}
use Rattle.rst_tree.specs.Nodes.{forest_of}
use Rattle.rst_transform_contents.specs.Outline.{outline}
use Rattle.rst_transform_contents.proofs.outline.+outline.Given as goal

abbrev pub decreases-outline : goal.decreases-outline
decreases-outline l = l.levels

-- the sections so far, and then those that are left
abbrev pub invariant-loop-node : goal.invariant-loop-node
invariant-loop-node l = l.sections.items ++ outline l.fn.levels (forest_of (drop l.node-index l.node-items)) ≡ outline l.fn.levels l.fn.nodes
