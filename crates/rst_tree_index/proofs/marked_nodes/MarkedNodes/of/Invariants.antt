use Rattle.std.proofs.Common.{◌≡◌, ◌++◌, drop}
use Rattle.std.specs.Prelude.{map}
use Rattle.rst_tree_index.specs.Known.{place_and_marks, known_of}
use Rattle.rst_tree_index.proofs.marked_nodes.MarkedNodes.of.Given as goal

abbrev pub invariant-loop-place : goal.invariant-loop-place
invariant-loop-place l = map place_and_marks l.known.items ++ known_of l.place (drop l.place l.fn.nodes.items) ≡ known_of 0 l.fn.nodes.items
