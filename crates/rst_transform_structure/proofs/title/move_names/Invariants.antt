use Rattle.std.proofs.Common.{take, None}
use Rattle.rst_transform_structure.specs.Passing.{paired_with_number, Passes}
use Rattle.rst_transform_structure.proofs.title.move_names.Given as goal

abbrev pub invariant-loop-name : goal.invariant-loop-name
invariant-loop-name l = Passes (paired_with_number None (take l.name-index l.own_names)) l.initial.names l.names
