use Rattle.rst_tree.specs.Forest.{height}
use Rattle.rst_transform_substitutions.specs.Definitions.{found_by, known_place}
use Rattle.rst_transform_substitutions.proofs.Replacing.{Replacing}
use Rattle.rst_transform_substitutions.proofs.expand.+expand_in.Given as goal

abbrev pub decreases-expand_in : goal.decreases-expand_in
decreases-expand_in l = height l.nodes.now

abbrev pub invariant-loop-i : goal.invariant-loop-i
invariant-loop-i l = Replacing (found_by l.fn.definitions) (known_place l.fn.definitions) l.fn.within l.initial.nodes l.initial.context l.context l.nodes l.i
