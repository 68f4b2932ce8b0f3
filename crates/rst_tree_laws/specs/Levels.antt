-- How many levels nodes have (Document Tree).
use Rattle.std.specs.Prelude.{ℕ, ◌≤◌, List}
use Rattle.std.specs.List.{AllByRecursion}
use Rattle.rst_tree.specs.Nodes.{node_height}
use Rattle.rst_tree.specs.declared.node.Node.{Node}

-- no node has more levels than these
abbrev pub Low : ℕ → List Node → Type 0
Low m ns = AllByRecursion (λ n. node_height n ≤ m) ns
