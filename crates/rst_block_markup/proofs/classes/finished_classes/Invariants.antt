use Rattle.std.proofs.Common.{◌≡◌, ◌++◌, length, map}
use Rattle.rst_tree_index.specs.Classes.{classes_of}
use Rattle.rst_block_state.specs.Directives.{with_words}
use Rattle.rst_block_markup.proofs.classes.finished_classes.Given as goal

abbrev pub invariant-loop-node : goal.invariant-loop-node
invariant-loop-node l = l.made ++ map (with_words (classes_of l.element)) l.rest ≡ map (with_words (classes_of l.element)) l.initial.rest

abbrev pub decreases-loop-node : goal.decreases-loop-node
decreases-loop-node l = length l.rest
