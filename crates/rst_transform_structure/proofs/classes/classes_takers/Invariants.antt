use Rattle.std.proofs.Common.{◌≡◌, ◌≤◌, take}
use Rattle.rst_transform_structure.specs.Classes.{classes_takers}
use Rattle.rst_transform_structure.proofs.classes.classes_takers.Given as goal

abbrev pub invariant-loop-node : goal.invariant-loop-node
invariant-loop-node l = record { count : l.count ≡ classes_takers (take l.node-index l.nodes); few : l.count ≤ l.node-index }
