use Rattle.std.proofs.Common.{◌≡◌, ◌++◌}
use Rattle.rst_transform_structure.specs.Passing.{paired_with_number}
use Rattle.rst_transform_structure.proofs.targets.add_got.Given as goal

abbrev pub invariant-loop-name : goal.invariant-loop-name
invariant-loop-name l = l.got.items ≡ l.initial.got.items ++ paired_with_number l.number l.yielded
