use Rattle.rst_tree.specs.Forest.{height}
use Rattle.rst_transform_structure.proofs.Placing.{Placing}
use Rattle.rst_transform_structure.proofs.transitions.+place_in.Given as goal

abbrev pub decreases-place_in : goal.decreases-place_in
decreases-place_in l = height l.nodes

abbrev pub invariant-loop-node : goal.invariant-loop-node
invariant-loop-node l = Placing l.initial.context l.ends l.fn.nodes l.left l.yielded l.next_fault l.placed.items l.context
