use Rattle.rst_transform_structure.specs.Passing.{Passes}
use Rattle.rst_transform_structure.proofs.targets.pass.Given as goal

abbrev pub invariant-loop-name : goal.invariant-loop-name
invariant-loop-name l = Passes l.yielded l.initial.names l.names
