use Rattle.rst_tree.specs.Forest.{height}
use Rattle.rst_transform_structure.proofs.Classing.{Classing}
use Rattle.rst_transform_structure.proofs.classes.+classed.Given as goal

abbrev pub decreases-classed : goal.decreases-classed
decreases-classed l = height l.nodes

abbrev pub invariant-loop-node : goal.invariant-loop-node
invariant-loop-node l = Classing l.ends l.initial.left l.fn.nodes l.takers l.yielded l.left l.done.items
