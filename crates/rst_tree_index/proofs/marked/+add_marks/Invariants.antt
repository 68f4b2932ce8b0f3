use Rattle.std.proofs.Common.{◌≡◌, ◌++◌, take}
use Rattle.std.specs.Prelude.{map}
use Rattle.rst_tree.specs.Forest.{height}
use Rattle.rst_tree.specs.Nodes.{forest_of}
use Rattle.rst_tree_index.specs.Marks.{path_of, places}
use Rattle.rst_tree_index.specs.Registered.{is_registered}
use Rattle.rst_tree_index.proofs.marked.+add_marks.Given as goal

abbrev pub decreases-add_marks : goal.decreases-add_marks
decreases-add_marks l = height l.nodes.now

abbrev pub invariant-loop-place : goal.invariant-loop-place
invariant-loop-place l = l.marks ≡ l.initial.marks ++ map path_of (places is_registered (forest_of (take l.place l.list)))
