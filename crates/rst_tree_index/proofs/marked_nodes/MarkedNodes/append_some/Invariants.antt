use Rattle.std.proofs.Common.{◌≡◌, ◌++◌}
use Rattle.rst_tree_index.proofs.marked_nodes.MarkedNodes.append_some.Given as goal

abbrev pub invariant-loop-root : goal.invariant-loop-root
invariant-loop-root l = l.self ≡ l.initial.self ++ l.yielded
