use Rattle.std.proofs.Common.{◌≡◌}
use Rattle.std.specs.Prelude.{map}
use Rattle.rst_tree_index.specs.Known.{entry_after, place_and_marks}
use Rattle.rst_tree_index.proofs.marked_nodes.known_after.Given as goal

abbrev pub invariant-loop-place : goal.invariant-loop-place
invariant-loop-place l = map place_and_marks l.moved.items ≡ map (entry_after l.before) (map place_and_marks l.yielded)
